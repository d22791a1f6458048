-- From what the parts of a file are found to be to what the file is.
use Rattle.std.proofs.Common.{◌≡◌, ℕ, ◌≤◌, true, ◌&&◌, ◌==◌, leb, List, [], length, replicate, Some, None, Ok, Option, sym, refl, ap, ◌∙◌, arith, length-drop, length-take}
use Rattle.std.proofs.lemmas.Bool.{and_parts, leb-true, eqb-true}
use Rattle.model.specs.declared.fault.Fault.{Fault}
use Rattle.model.specs.declared.fault.Cause.TheVariants.{FileLength, LeadBytes, SectionPlace}
use Rattle.model.specs.Faults.{fault, unless, first, answer}
use Rattle.model.specs.Meaning.{heap_of}
use Rattle.model.specs.Calls.{empty_heap}
use Rattle.snapshot.specs.declared.header.Pair.{Pair}
use Rattle.snapshot.specs.declared.header.Layout.{Layout}
use Rattle.snapshot.specs.Sections.{which}
use Rattle.snapshot.specs.Header.{rows_of, layout_of, end, section, lead}
use Rattle.snapshot.specs.Header.{file_length_fault, places_fault, lengths_fault, pairs_fault, header_fault}
use Rattle.snapshot.specs.Entries.{first_of, cells_fault, roots_fault, links_fault, ephemerons_fault, entries_fault}
use Rattle.snapshot.specs.Laid.{cell_in, record_in, table, laid, file_fault}
use Rattle.model.proofs.Faults.{first_none}
use Rattle.snapshot.proofs.Order.{unless_none}
use Rattle.snapshot.proofs.Rows.{place_fault, places_by_row, starts_at}
use Rattle.snapshot.proofs.Tables.{table_none}

pub ok_is : {A : Type 0} (o : Option Fault) (a b : A) → Ok b ≡ answer o a → b ≡ a
ok_is None a b e = cc
ok_is (Some f) a b e = cc

-- a fault of the head is the file's, and where there is none the entries' first is
pub file_head : (bs : List ℕ) (f : Fault) → header_fault bs ≡ Some f → file_fault bs ≡ Some f
file_head bs f h = ap (λ (o : Option Fault). first o (entries_fault (layout_of bs)
    (section bs (layout_of bs).cells) (section bs (layout_of bs).roots)
    (section bs (layout_of bs).links) (section bs (layout_of bs).ephemerons))) h

pub file_entries : (bs : List ℕ) (l : Layout) → header_fault bs ≡ None → l ≡ layout_of bs →
    file_fault bs ≡ entries_fault l (section bs l.cells) (section bs l.roots)
    (section bs l.links) (section bs l.ephemerons)
file_entries bs l h e =
    ap (λ (o : Option Fault). first o (entries_fault (layout_of bs)
    (section bs (layout_of bs).cells) (section bs (layout_of bs).roots)
    (section bs (layout_of bs).links) (section bs (layout_of bs).ephemerons))) h
    ∙ ap (λ (m : Layout). entries_fault m (section bs m.cells) (section bs m.roots)
    (section bs m.links) (section bs m.ephemerons)) (sym e)

-- the sections of a good head lie in the file
pub record Placed (l : Layout) (n : ℕ) : Type 0 where
  pub first_at : l.cells.offset ≡ 36
  pub second_at : l.roots.offset ≡ end l.cells
  pub third_at : l.links.offset ≡ end l.roots
  pub fourth_at : l.ephemerons.offset ≡ end l.links
  pub last_ends : end l.ephemerons ≡ n

pub placed : (l : Layout) (n : ℕ) → places_fault l n ≡ None → Placed l n
placed l n e =
    let z = end l.ephemerons == n in
    let p = first_none (first_of (place_fault (rows_of l)) 4) (unless z (fault SectionPlace 28))
    (sym (places_by_row l n) ∙ e) in
    record {
      first_at = starts_at (rows_of l) p.0 0 (omega arith);
      second_at = starts_at (rows_of l) p.0 1 (omega arith);
      third_at = starts_at (rows_of l) p.0 2 (omega arith);
      fourth_at = starts_at (rows_of l) p.0 3 (omega arith);
      last_ends = eqb-true _ _ (unless_none z (fault SectionPlace 28) p.1);
    }

-- what no fault of the head says
pub record Headed (bs : List ℕ) : Type 0 where
  pub long : 36 ≤ length bs
  pub short : length bs ≤ 65536
  pub led : lead bs ≡ true
  pub places : Placed (layout_of bs) (length bs)
  pub whole : lengths_fault (layout_of bs) ≡ None

pub headed : (bs : List ℕ) → header_fault bs ≡ None → Headed bs
headed bs e =
    let p = first_none (file_length_fault bs)
    (first (unless (lead bs) (fault LeadBytes 0)) (pairs_fault (layout_of bs) (length bs))) e in
    let q = first_none (unless (lead bs) (fault LeadBytes 0)) (pairs_fault (layout_of bs) (length bs))
    p.1 in
    let r = first_none (places_fault (layout_of bs) (length bs)) (lengths_fault (layout_of bs)) q.1 in
    let n = length bs in
    let s = and_parts (leb 36 n) (leb n 65536)
    (unless_none (leb 36 n && leb n 65536) (fault FileLength 0) p.0) in
    record {
      long = leb-true 36 n s.0;
      short = leb-true n 65536 s.1;
      led = unless_none (lead bs) (fault LeadBytes 0) q.0;
      places = placed (layout_of bs) n r.0;
      whole = r.1;
    }

pub section_length : (bs : List ℕ) (p : Pair) → end p ≤ length bs → length (section bs p) ≡ p.size
section_length bs p l = simp (length-take, length-drop) (omega arith)

-- no fault among the entries is none in any section
pub record Clean (l : Layout) (cs rs ls es : List ℕ) : Type 0 where
  pub cells : cells_fault cs l.cells.offset ≡ None
  pub roots : roots_fault cs rs l.roots.offset ≡ None
  pub links : links_fault cs rs ls l.links.offset ≡ None
  pub ephemerons : ephemerons_fault cs rs ls es l.ephemerons.offset ≡ None

pub clean : (l : Layout) (cs rs ls es : List ℕ) → entries_fault l cs rs ls es ≡ None → Clean l cs rs ls es
clean l cs rs ls es e =
    let a = cells_fault cs l.cells.offset in
    let b = roots_fault cs rs l.roots.offset in
    let c = links_fault cs rs ls l.links.offset in
    let d = ephemerons_fault cs rs ls es l.ephemerons.offset in
    let p = first_none a (first b (first c d)) e in
    let q = first_none b (first c d) p.1 in
    let r = first_none c d q.1 in
    record { cells = p.0; roots = q.0; links = r.0; ephemerons = r.1 }

-- no entries lay down nothing
nothing : (m n : ℕ) → heap_of (table m (cell_in [])) (table n (record_in [] [] [])) ≡ heap_of
    (replicate m None) (replicate n None)
unfolding which
nothing m n = rw (table_none m (cell_in []) (λ k. refl), table_none n (record_in [] [] []) (λ k. refl))

pub nothing_laid : laid [] [] [] [] ≡ empty_heap
nothing_laid = nothing 1024 4096
