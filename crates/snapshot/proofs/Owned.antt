-- Files that show one heap have the same sections.
use Rattle.std.proofs.Common.{◌≡◌, ℕ, zero, suc, ◌+◌, ◌*◌, ◌%◌, ◌<◌, true, not, ◌&&◌, eqb, ltb, List, length, is_some, Some, None, Option, sym, refl, ap, ◌∙◌, arith}
use Rattle.std.proofs.lemmas.Bool.{and_parts, ltb-true, eqb-true}
use Rattle.model.specs.declared.record.Record.{Record}
use Rattle.model.specs.declared.record.Record.TheVariants.{Root, Link, Ephemeron}
use Rattle.model.specs.declared.record.Strength.{Strength}
use Rattle.model.specs.Strengths.{strength_of, strength_number}
use Rattle.model.specs.Meaning.{size_fits}
use Rattle.snapshot.specs.Numbers.{u16_at, u32_at}
use Rattle.snapshot.specs.Sections.{field, number, entries, found, has, Sorted}
use Rattle.snapshot.specs.Entries.{cells_fault, roots_fault, links_fault, ephemerons_fault}
use Rattle.snapshot.specs.Laid.{size_of, root_of, link_of, ephemeron_of, cell_in}
use Rattle.snapshot.specs.Laid.{link_in, ephemeron_in, or_else, record_in}
use Rattle.snapshot.specs.Alone.{Bytes}
use Rattle.snapshot.proofs.Halving.{which_at, rising_past}
use Rattle.snapshot.proofs.Order.{cell_passed, root_passed, link_passed, ephemeron_passed}
use Rattle.snapshot.proofs.Order.{cells_sorted, roots_sorted, links_sorted, ephemerons_sorted}
use Rattle.snapshot.proofs.Shown.{four}
use Rattle.snapshot.proofs.Halves.{u32_halves, same_eights, same_fours}
use Rattle.snapshot.proofs.Alike.{Into, shown_entry, alike}

-- an entry's number finds it
here : (w : ℕ) (s : List ℕ) → Sorted w s → (k : ℕ) → k < entries w s → found w s (number w s k) ≡ Some k
here w s h k l = which_at (number w s) (number w s k) (entries w s) k l refl
    (λ j a b. rising_past (number w s) (entries w s) h k j a b)

absent : (o : Option ℕ) → not (is_some o) ≡ true → o ≡ None
absent None e = refl
absent (Some k) e = cc

-- what an entry says
abbrev size_at : List ℕ → ℕ → ℕ
size_at cs k = u32_at cs (8 * k + 4)

abbrev root_at : List ℕ → ℕ → Record
root_at rs k = Root (field 4 rs k 2)

abbrev link_at : List ℕ → ℕ → Record
link_at ls k = Link (field 8 ls k 2) (field 8 ls k 4) (strength_of (field 8 ls k 6))

abbrev ephemeron_at : List ℕ → ℕ → Record
ephemeron_at es k = Ephemeron (field 8 es k 2) (field 8 es k 4) (field 8 es k 6)

-- cells

abbrev pub SameCells : List ℕ → List ℕ → Type 0
SameCells cs ds = (n : ℕ) → n < 1024 → cell_in cs n ≡ cell_in ds n

cells_into : (cs ds : List ℕ) (i : ℕ) → cells_fault cs i ≡ None → SameCells cs ds →
    Into (number 8 cs) (size_at cs) (entries 8 cs) (number 8 ds) (size_at ds) (entries 8 ds)
cells_into cs ds i h same k l =
    let n = number 8 cs k in
    let r = eqb (field 8 cs k 2) 0 && size_fits (Some (size_at cs k)) in
    let p = and_parts (ltb n 1024) r (cell_passed cs i h k l).in_range in
    shown_entry (number 8 ds) (size_at ds) (size_of ds) (entries 8 ds) n (size_at cs k) refl (λ j. refl)
    (sym (same n (ltb-true n 1024 p.0)) ∙ ap (size_of cs) (here 8 cs (cells_sorted cs i h) k l))

zero_field : (cs : List ℕ) (i : ℕ) → cells_fault cs i ≡ None → (k : ℕ) → k < entries 8 cs → field 8 cs k 2 ≡ 0
zero_field cs i h k l =
    let z = eqb (field 8 cs k 2) 0 in
    let s = size_fits (Some (size_at cs k)) in
    let p = and_parts (ltb (number 8 cs k) 1024) (z && s) (cell_passed cs i h k l).in_range in
    eqb-true (field 8 cs k 2) 0 (and_parts z s p.1).0

pub cells_same : (cs ds : List ℕ) (i j : ℕ) → Bytes cs → Bytes ds → length cs % 8 ≡ 0 → length ds % 8 ≡ 0 →
    cells_fault cs i ≡ None → cells_fault ds j ≡ None → SameCells cs ds → cs ≡ ds
cells_same cs ds i j t u w x g h same =
    let al = alike (number 8 cs) (size_at cs) (entries 8 cs) (number 8 ds) (size_at ds) (entries 8 ds)
    (cells_sorted cs i g) (cells_sorted ds j h)
    (cells_into cs ds i g same) (cells_into ds cs j h (λ n l. sym (same n l))) in
    let c = al.count in
    same_eights cs ds t u (omega arith) w (λ k l.
    let l' : k < entries 8 ds = omega arith in
    let p = u32_halves cs ds t u (8 * k + 4) (al.values k l) in
    let e : 8 * k + 4 + 2 ≡ 8 * k + 6 = omega arith in (
      al.numbers k l,
      zero_field cs i g k l ∙ sym (zero_field ds j h k l'),
      p.0,
      ap (u16_at cs) (sym e) ∙ (p.1 ∙ ap (u16_at ds) e),
    ))

-- records

abbrev pub SameRecords : List ℕ → List ℕ → List ℕ → List ℕ → List ℕ → List ℕ → Type 0
SameRecords rs ls es rs' ls' es' = (n : ℕ) → n < 4096 → record_in rs ls es n ≡ record_in rs' ls' es' n

-- a record of one kind stands in the section of its kind
only_root : (rs ls es : List ℕ) (o p q : Option ℕ) (t : ℕ) →
    or_else (root_of rs o) (or_else (link_of ls p) (ephemeron_of es q)) ≡ Some (Root t) →
    root_of rs o ≡ Some (Root t)
only_root rs ls es (Some k) p q t e = e
only_root rs ls es None (Some k) q t e = cc
only_root rs ls es None None (Some k) t e = cc
only_root rs ls es None None None t e = e

only_link : (rs ls es : List ℕ) (o p q : Option ℕ) (a t : ℕ) (s : Strength) →
    or_else (root_of rs o) (or_else (link_of ls p) (ephemeron_of es q)) ≡ Some (Link a t s) →
    link_of ls p ≡ Some (Link a t s)
only_link rs ls es (Some k) p q a t s e = cc
only_link rs ls es None (Some k) q a t s e = e
only_link rs ls es None None (Some k) a t s e = cc
only_link rs ls es None None None a t s e = e

only_ephemeron : (rs ls es : List ℕ) (o p q : Option ℕ) (a b v : ℕ) →
    or_else (root_of rs o) (or_else (link_of ls p) (ephemeron_of es q)) ≡ Some (Ephemeron a b v) →
    ephemeron_of es q ≡ Some (Ephemeron a b v)
only_ephemeron rs ls es (Some k) p q a b v e = cc
only_ephemeron rs ls es None (Some k) q a b v e = cc
only_ephemeron rs ls es None None q a b v e = e

roots_into : (cs rs ls es rs' ls' es' : List ℕ) (i : ℕ) → roots_fault cs rs i ≡ None →
    SameRecords rs ls es rs' ls' es' →
    Into (number 4 rs) (root_at rs) (entries 4 rs) (number 4 rs') (root_at rs') (entries 4 rs')
roots_into cs rs ls es rs' ls' es' i h same k l =
    let n = number 4 rs k in
    let p = and_parts (ltb n 4096) (ltb (field 4 rs k 2) 1024) (root_passed cs rs i h k l).in_range in
    let shown : record_in rs ls es n ≡ Some (root_at rs k) =
    ap (λ (o : Option ℕ). or_else (root_of rs o) (or_else (link_in ls n) (ephemeron_in es n)))
    (here 4 rs (roots_sorted cs rs i h) k l) in
    shown_entry (number 4 rs') (root_at rs') (root_of rs') (entries 4 rs') n (root_at rs k) refl (λ j. refl)
    (only_root rs' ls' es' (found 4 rs' n) (found 8 ls' n) (found 8 es' n) (field 4 rs k 2)
    (sym (same n (ltb-true n 4096 p.0)) ∙ shown))

links_into : (cs rs ls es rs' ls' es' : List ℕ) (i : ℕ) → links_fault cs rs ls i ≡ None →
    SameRecords rs ls es rs' ls' es' →
    Into (number 8 ls) (link_at ls) (entries 8 ls) (number 8 ls') (link_at ls') (entries 8 ls')
links_into cs rs ls es rs' ls' es' i h same k l =
    let n = number 8 ls k in
    let q = link_passed cs rs ls i h k l in
    let p = four (ltb n 4096) (ltb (field 8 ls k 2) 1024) (ltb (field 8 ls k 4) 1024)
    (ltb (field 8 ls k 6) 4) q.in_range in
    let shown : record_in rs ls es n ≡ Some (link_at ls k) =
    ap (λ (o : Option ℕ). or_else (root_of rs o) (or_else (link_in ls n) (ephemeron_in es n)))
    (absent (found 4 rs n) q.new)
    ∙ ap (λ (o : Option ℕ). or_else (link_of ls o) (ephemeron_in es n))
    (here 8 ls (links_sorted cs rs ls i h) k l) in
    shown_entry (number 8 ls') (link_at ls') (link_of ls') (entries 8 ls') n (link_at ls k) refl (λ j. refl)
    (only_link rs' ls' es' (found 4 rs' n) (found 8 ls' n) (found 8 es' n)
    (field 8 ls k 2) (field 8 ls k 4) (strength_of (field 8 ls k 6))
    (sym (same n (ltb-true n 4096 p.0)) ∙ shown))

ephemerons_into : (cs rs ls es rs' ls' es' : List ℕ) (i : ℕ) → ephemerons_fault cs rs ls es i ≡ None →
    SameRecords rs ls es rs' ls' es' →
    Into (number 8 es) (ephemeron_at es) (entries 8 es) (number 8 es') (ephemeron_at es') (entries 8 es')
ephemerons_into cs rs ls es rs' ls' es' i h same k l =
    let n = number 8 es k in
    let q = ephemeron_passed cs rs ls es i h k l in
    let p = four (ltb n 4096) (ltb (field 8 es k 2) 1024) (ltb (field 8 es k 4) 1024)
    (ltb (field 8 es k 6) 1024) q.in_range in
    let free = and_parts (not (has 4 rs n)) (not (has 8 ls n)) q.new in
    let shown : record_in rs ls es n ≡ Some (ephemeron_at es k) =
    ap (λ (o : Option ℕ). or_else (root_of rs o) (or_else (link_in ls n) (ephemeron_in es n)))
    (absent (found 4 rs n) free.0)
    ∙ (ap (λ (o : Option ℕ). or_else (link_of ls o) (ephemeron_in es n)) (absent (found 8 ls n) free.1)
    ∙ ap (ephemeron_of es) (here 8 es (ephemerons_sorted cs rs ls es i h) k l)) in
    shown_entry (number 8 es') (ephemeron_at es') (ephemeron_of es') (entries 8 es') n
    (ephemeron_at es k) refl (λ j. refl)
    (only_ephemeron rs' ls' es' (found 4 rs' n) (found 8 ls' n) (found 8 es' n)
    (field 8 es k 2) (field 8 es k 4) (field 8 es k 6)
    (sym (same n (ltb-true n 4096 p.0)) ∙ shown))

-- constructors keep what they are made of

root_parts : (a b : ℕ) → Root a ≡ Root b → a ≡ b
root_parts a b e = cc

link_parts : (a b a' b' : ℕ) (s s' : Strength) → Link a b s ≡ Link a' b' s' → (a ≡ a') × (b ≡ b') × (s ≡ s')
link_parts a b a' b' s s' e = (cc, cc, cc)

ephemeron_parts : (a b v a' b' v' : ℕ) → Ephemeron a b v ≡ Ephemeron a' b' v' → (a ≡ a') × (b ≡ b') × (v ≡ v')
ephemeron_parts a b v a' b' v' e = (cc, cc, cc)

strength_back : (k : ℕ) → k < 4 → strength_number (strength_of k) ≡ k
strength_back zero l = refl
strength_back (suc zero) l = refl
strength_back (suc (suc zero)) l = refl
strength_back (suc (suc (suc zero))) l = refl
strength_back (suc (suc (suc (suc k)))) l = absurd (omega arith)

strength_same : (j k : ℕ) → j < 4 → k < 4 → strength_of j ≡ strength_of k → j ≡ k
strength_same j k l m e = sym (strength_back j l) ∙ (ap strength_number e ∙ strength_back k m)

strength_fits : (cs rs ls : List ℕ) (i : ℕ) → links_fault cs rs ls i ≡ None → (k : ℕ) → k < entries 8 ls →
    field 8 ls k 6 < 4
strength_fits cs rs ls i h k l =
    let p = four (ltb (number 8 ls k) 4096) (ltb (field 8 ls k 2) 1024) (ltb (field 8 ls k 4) 1024)
    (ltb (field 8 ls k 6) 4) (link_passed cs rs ls i h k l).in_range in
    ltb-true (field 8 ls k 6) 4 p.3

pub roots_same : (cs rs ls es cs' rs' ls' es' : List ℕ) (i j : ℕ) → Bytes rs → Bytes rs' →
    length rs % 4 ≡ 0 → length rs' % 4 ≡ 0 → roots_fault cs rs i ≡ None → roots_fault cs' rs' j ≡ None →
    SameRecords rs ls es rs' ls' es' → rs ≡ rs'
roots_same cs rs ls es cs' rs' ls' es' i j t u w x g h same =
    let al = alike (number 4 rs) (root_at rs) (entries 4 rs) (number 4 rs') (root_at rs') (entries 4 rs')
    (roots_sorted cs rs i g) (roots_sorted cs' rs' j h)
    (roots_into cs rs ls es rs' ls' es' i g same)
    (roots_into cs' rs' ls' es' rs ls es j h (λ n l. sym (same n l))) in
    let c = al.count in
    same_fours rs rs' t u (omega arith) w (λ k l.
    (al.numbers k l, root_parts (field 4 rs k 2) (field 4 rs' k 2) (al.values k l)))

pub links_same : (cs rs ls es cs' rs' ls' es' : List ℕ) (i j : ℕ) → Bytes ls → Bytes ls' →
    length ls % 8 ≡ 0 → length ls' % 8 ≡ 0 → links_fault cs rs ls i ≡ None →
    links_fault cs' rs' ls' j ≡ None →
    SameRecords rs ls es rs' ls' es' → ls ≡ ls'
links_same cs rs ls es cs' rs' ls' es' i j t u w x g h same =
    let al = alike (number 8 ls) (link_at ls) (entries 8 ls) (number 8 ls') (link_at ls') (entries 8 ls')
    (links_sorted cs rs ls i g) (links_sorted cs' rs' ls' j h)
    (links_into cs rs ls es rs' ls' es' i g same)
    (links_into cs' rs' ls' es' rs ls es j h (λ n l. sym (same n l))) in
    let c = al.count in
    same_eights ls ls' t u (omega arith) w (λ k l.
    let l' : k < entries 8 ls' = omega arith in
    let p = link_parts (field 8 ls k 2) (field 8 ls k 4) (field 8 ls' k 2) (field 8 ls' k 4)
    (strength_of (field 8 ls k 6)) (strength_of (field 8 ls' k 6)) (al.values k l) in (
      al.numbers k l,
      p.0,
      p.1,
      strength_same (field 8 ls k 6) (field 8 ls' k 6)
          (strength_fits cs rs ls i g k l) (strength_fits cs' rs' ls' j h k l') p.2,
    ))

pub ephemerons_same : (cs rs ls es cs' rs' ls' es' : List ℕ) (i j : ℕ) → Bytes es → Bytes es' →
    length es % 8 ≡ 0 → length es' % 8 ≡ 0 →
    ephemerons_fault cs rs ls es i ≡ None → ephemerons_fault cs' rs' ls' es' j ≡ None →
    SameRecords rs ls es rs' ls' es' → es ≡ es'
ephemerons_same cs rs ls es cs' rs' ls' es' i j t u w x g h same =
    let al = alike (number 8 es) (ephemeron_at es) (entries 8 es) (number 8 es') (ephemeron_at es')
    (entries 8 es')
    (ephemerons_sorted cs rs ls es i g) (ephemerons_sorted cs' rs' ls' es' j h)
    (ephemerons_into cs rs ls es rs' ls' es' i g same)
    (ephemerons_into cs' rs' ls' es' rs ls es j h (λ n l. sym (same n l))) in
    let c = al.count in
    same_eights es es' t u (omega arith) w (λ k l.
    let p = ephemeron_parts (field 8 es k 2) (field 8 es k 4) (field 8 es k 6)
    (field 8 es' k 2) (field 8 es' k 4) (field 8 es' k 6) (al.values k l) in
    (al.numbers k l, p.0, p.1, p.2))
