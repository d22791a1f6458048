-- What a file without fault shows: sizes in range, and records that name only cells of the file.
use Rattle.std.proofs.Common.{◌≡◌, ℕ, ◌+◌, ◌*◌, Bool, true, ◌&&◌, eqb, ltb, List, is_some, Some, None, Option, refl, ap, ◌∙◌}
use Rattle.std.proofs.lemmas.Bool.{and_parts, and_from, ltb-true}
use Rattle.model.specs.declared.record.Record.{Record}
use Rattle.model.specs.Meaning.{size_fits, filled_in, names_filled, SizesFit, NamesFilled}
use Rattle.snapshot.specs.Numbers.{u32_at}
use Rattle.snapshot.specs.Sections.{field, number, entries, found, has}
use Rattle.snapshot.specs.Entries.{cells_fault, roots_fault, links_fault, ephemerons_fault}
use Rattle.snapshot.specs.Laid.{size_of, root_of, link_of, ephemeron_of, cell_in, root_in}
use Rattle.snapshot.specs.Laid.{link_in, ephemeron_in, or_else, record_in, cell_list, record_list}
use Rattle.snapshot.proofs.Order.{cell_passed, root_passed, link_passed, ephemeron_passed}
use Rattle.snapshot.proofs.Tables.{table_at, table_all, which_all, or_else_all}

pub sizes_shown : (cs : List ℕ) (i : ℕ) → cells_fault cs i ≡ None → SizesFit (cell_list cs)
sizes_shown cs i h = table_all (λ o. size_fits o ≡ true) 1024 (cell_in cs) refl
    (λ n. which_all (λ o. size_fits (size_of cs o) ≡ true) (number 8 cs) (entries 8 cs) n refl (λ k l.
    let z = eqb (field 8 cs k 2) 0 in
    let s = size_fits (Some (u32_at cs (8 * k + 4))) in
    let p = and_parts (ltb (number 8 cs k) 1024) (z && s) (cell_passed cs i h k l).in_range in
    (and_parts z s p.1).1))

-- a cell of the file is filled
some_size : (cs : List ℕ) (o : Option ℕ) → is_some o ≡ true → is_some (size_of cs o) ≡ true
some_size cs None e = cc
some_size cs (Some k) e = refl

pub cell_shown : (cs : List ℕ) (t : ℕ) → ltb t 1024 ≡ true → has 8 cs t ≡ true →
    filled_in (cell_list cs) t ≡ true
cell_shown cs t l h =
    ap is_some (table_at 1024 (cell_in cs) t (ltb-true t 1024 l)) ∙ some_size cs (found 8 cs t) h

-- the parts of four tests
pub four : (a b c d : Bool) → (a && (b && (c && d))) ≡ true →
    (a ≡ true) × (b ≡ true) × (c ≡ true) × (d ≡ true)
four a b c d e =
    let p = and_parts a (b && (c && d)) e in
    let q = and_parts b (c && d) p.1 in
    let r = and_parts c d q.1 in
    (p.0, q.0, r.0, r.1)

abbrev Named : List ℕ → Option Record → Type 0
Named cs o = names_filled (cell_list cs) o ≡ true

roots_named : (cs rs : List ℕ) (i : ℕ) → roots_fault cs rs i ≡ None → (n : ℕ) → Named cs (root_in rs n)
roots_named cs rs i h n = which_all (λ o. Named cs (root_of rs o)) (number 4 rs) (entries 4 rs) n refl (λ k l.
    let p = root_passed cs rs i h k l in
    let t = field 4 rs k 2 in
    cell_shown cs t (and_parts (ltb (number 4 rs k) 4096) (ltb t 1024) p.in_range).1 p.there)

links_named : (cs rs ls : List ℕ) (i : ℕ) → links_fault cs rs ls i ≡ None → (n : ℕ) → Named cs (link_in ls n)
links_named cs rs ls i h n = which_all (λ o. Named cs (link_of ls o)) (number 8 ls)
    (entries 8 ls) n refl (λ k l.
    let p = link_passed cs rs ls i h k l in
    let s = field 8 ls k 2 in
    let t = field 8 ls k 4 in
    let q = four (ltb (number 8 ls k) 4096) (ltb s 1024) (ltb t 1024) (ltb (field 8 ls k 6) 4)
    p.in_range in
    let r = and_parts (has 8 cs s) (has 8 cs t) p.there in
    and_from (filled_in (cell_list cs) s) (filled_in (cell_list cs) t)
    (cell_shown cs s q.1 r.0) (cell_shown cs t q.2 r.1))

ephemerons_named : (cs rs ls es : List ℕ) (i : ℕ) → ephemerons_fault cs rs ls es i ≡ None →
    (n : ℕ) → Named cs (ephemeron_in es n)
ephemerons_named cs rs ls es i h n =
    which_all (λ o. Named cs (ephemeron_of es o)) (number 8 es) (entries 8 es) n refl (λ k l.
    let p = ephemeron_passed cs rs ls es i h k l in
    let a = field 8 es k 2 in
    let b = field 8 es k 4 in
    let v = field 8 es k 6 in
    let q = four (ltb (number 8 es k) 4096) (ltb a 1024) (ltb b 1024) (ltb v 1024) p.in_range in
    let r = and_parts (has 8 cs a) (has 8 cs b && has 8 cs v) p.there in
    let s = and_parts (has 8 cs b) (has 8 cs v) r.1 in
    let all = cell_list cs in
    and_from (filled_in all a) (filled_in all b && filled_in all v) (cell_shown cs a q.1 r.0)
    (and_from (filled_in all b) (filled_in all v) (cell_shown cs b q.2 s.0)
    (cell_shown cs v q.3 s.1)))

pub names_shown : (cs rs ls es : List ℕ) (i j k : ℕ) → roots_fault cs rs i ≡ None →
    links_fault cs rs ls j ≡ None →
    ephemerons_fault cs rs ls es k ≡ None → NamesFilled (cell_list cs) (record_list rs ls es)
names_shown cs rs ls es i j k a b c = table_all (Named cs) 4096 (record_in rs ls es) refl (λ n.
    or_else_all (Named cs) (root_in rs n) (or_else (link_in ls n) (ephemeron_in es n))
    (roots_named cs rs i a n)
    (or_else_all (Named cs) (link_in ls n) (ephemeron_in es n)
    (links_named cs rs ls j b n) (ephemerons_named cs rs ls es k c n)))
