-- Sections without fault are sorted.
use Rattle.std.proofs.Common.{◌≡◌, ℕ, suc, ◌+◌, ◌*◌, ◌<◌, Bool, true, false, not, ◌&&◌, List, None, refl}
use Rattle.std.proofs.lemmas.Bool.{ltb-true}
use Rattle.model.specs.declared.fault.Fault.{Fault}
use Rattle.model.specs.declared.fault.Cause.TheVariants.{FieldRange, NumberOrder, RecordTwice, CellMissing}
use Rattle.model.specs.Faults.{fault, unless, first}
use Rattle.snapshot.specs.Numbers.{u32_at}
use Rattle.snapshot.specs.Sections.{field, number, entry, entries, rises, has, Rising, Sorted}
use Rattle.snapshot.specs.Entries.{judged, first_of, entry_fault}
use Rattle.snapshot.specs.Entries.{cell_fits, root_fits, link_fits, ephemeron_fits}
use Rattle.snapshot.specs.Entries.{cell_entry_fault, root_entry_fault}
use Rattle.snapshot.specs.Entries.{link_entry_fault, ephemeron_entry_fault}
use Rattle.snapshot.specs.Entries.{cells_fault, roots_fault, links_fault, ephemerons_fault}
use Rattle.model.proofs.Faults.{first_none}
use Rattle.snapshot.proofs.Firsts.{none_at}

pub unless_none : (b : Bool) (f : Fault) → unless b f ≡ None → b ≡ true
unless_none true f e = refl
unless_none false f e = cc

-- what an entry without fault passed
pub record Passed (fits rising fresh present : Bool) : Type 0 where
  pub in_range : fits ≡ true
  pub above : rising ≡ true
  pub new : fresh ≡ true
  pub there : present ≡ true

pub passed : (place : ℕ) (a b c d : Bool) → judged place a b c d ≡ None → Passed a b c d
passed place a b c d e =
    let p = first_none (unless a (fault FieldRange place)) (first (unless b (fault NumberOrder place))
    (first (unless c (fault RecordTwice place)) (unless d (fault CellMissing place)))) e in
    let q = first_none (unless b (fault NumberOrder place))
    (first (unless c (fault RecordTwice place)) (unless d (fault CellMissing place))) p.1 in
    let r = first_none (unless c (fault RecordTwice place)) (unless d (fault CellMissing place)) q.1 in
    record {
      in_range = unless_none a (fault FieldRange place) p.0;
      above = unless_none b (fault NumberOrder place) q.0;
      new = unless_none c (fault RecordTwice place) r.0;
      there = unless_none d (fault CellMissing place) r.1;
    }

-- what each entry passed, in a section without fault
entry_passed : (fits fresh present : List ℕ → Bool) (w : ℕ) (s : List ℕ) (i : ℕ) →
    first_of (entry_fault fits fresh present w s i) (entries w s) ≡ None → (k : ℕ) → k < entries w s →
    Passed (fits (entry w s k)) (rises (number w s) k) (fresh (entry w s k)) (present (entry w s k))
entry_passed fits fresh present w s i h k l = passed (i + w * k)
    (fits (entry w s k)) (rises (number w s) k) (fresh (entry w s k)) (present (entry w s k))
    (none_at (entry_fault fits fresh present w s i) (entries w s) h k l)

-- the same by kind
pub cell_passed : (cs : List ℕ) (i : ℕ) → cells_fault cs i ≡ None → (k : ℕ) → k < entries 8 cs →
    Passed (cell_fits (number 8 cs k) (field 8 cs k 2) (u32_at cs (8 * k + 4)))
    (rises (number 8 cs) k) true true
cell_passed cs i h k l = passed (i + 8 * k)
    (cell_fits (number 8 cs k) (field 8 cs k 2) (u32_at cs (8 * k + 4))) (rises (number 8 cs) k) true true
    (none_at (cell_entry_fault cs i) (entries 8 cs) h k l)

pub root_passed : (cs rs : List ℕ) (i : ℕ) → roots_fault cs rs i ≡ None → (k : ℕ) → k < entries 4 rs →
    Passed (root_fits (number 4 rs k) (field 4 rs k 2)) (rises (number 4 rs) k) true
    (has 8 cs (field 4 rs k 2))
root_passed cs rs i h k l = passed (i + 4 * k)
    (root_fits (number 4 rs k) (field 4 rs k 2)) (rises (number 4 rs) k) true (has 8 cs (field 4 rs k 2))
    (none_at (root_entry_fault cs rs i) (entries 4 rs) h k l)

pub link_passed : (cs rs ls : List ℕ) (i : ℕ) → links_fault cs rs ls i ≡ None → (k : ℕ) → k < entries 8 ls →
    Passed (link_fits (number 8 ls k) (field 8 ls k 2) (field 8 ls k 4) (field 8 ls k 6))
    (rises (number 8 ls) k)
    (not (has 4 rs (number 8 ls k))) (has 8 cs (field 8 ls k 2) && has 8 cs (field 8 ls k 4))
link_passed cs rs ls i h k l = passed (i + 8 * k)
    (link_fits (number 8 ls k) (field 8 ls k 2) (field 8 ls k 4) (field 8 ls k 6)) (rises (number 8 ls) k)
    (not (has 4 rs (number 8 ls k))) (has 8 cs (field 8 ls k 2) && has 8 cs (field 8 ls k 4))
    (none_at (link_entry_fault cs rs ls i) (entries 8 ls) h k l)

pub ephemeron_passed : (cs rs ls es : List ℕ) (i : ℕ) → ephemerons_fault cs rs ls es i ≡ None →
    (k : ℕ) → k < entries 8 es →
    Passed (ephemeron_fits (number 8 es k) (field 8 es k 2) (field 8 es k 4) (field 8 es k 6))
    (rises (number 8 es) k)
    (not (has 4 rs (number 8 es k)) && not (has 8 ls (number 8 es k)))
    (has 8 cs (field 8 es k 2) && (has 8 cs (field 8 es k 4) && has 8 cs (field 8 es k 6)))
ephemeron_passed cs rs ls es i h k l = passed (i + 8 * k)
    (ephemeron_fits (number 8 es k) (field 8 es k 2) (field 8 es k 4) (field 8 es k 6))
    (rises (number 8 es) k)
    (not (has 4 rs (number 8 es k)) && not (has 8 ls (number 8 es k)))
    (has 8 cs (field 8 es k 2) && (has 8 cs (field 8 es k 4) && has 8 cs (field 8 es k 6)))
    (none_at (ephemeron_entry_fault cs rs ls es i) (entries 8 es) h k l)

-- numbers that rise at each entry
rising : (num : ℕ → ℕ) (n : ℕ) → ((k : ℕ) → k < n → rises num k ≡ true) → Rising num n
rising num n h k l = ltb-true (num k) (num (suc k)) (h (suc k) l)

pub section_sorted : (fits fresh present : List ℕ → Bool) (w : ℕ) (s : List ℕ) (i : ℕ) →
    first_of (entry_fault fits fresh present w s i) (entries w s) ≡ None → Sorted w s
section_sorted fits fresh present w s i h = rising (number w s) (entries w s)
    (λ k l. (entry_passed fits fresh present w s i h k l).above)

pub cells_sorted : (cs : List ℕ) (i : ℕ) → cells_fault cs i ≡ None → Sorted 8 cs
cells_sorted cs i h = rising (number 8 cs) (entries 8 cs) (λ k l. (cell_passed cs i h k l).above)

pub roots_sorted : (cs rs : List ℕ) (i : ℕ) → roots_fault cs rs i ≡ None → Sorted 4 rs
roots_sorted cs rs i h = rising (number 4 rs) (entries 4 rs) (λ k l. (root_passed cs rs i h k l).above)

pub links_sorted : (cs rs ls : List ℕ) (i : ℕ) → links_fault cs rs ls i ≡ None → Sorted 8 ls
links_sorted cs rs ls i h = rising (number 8 ls) (entries 8 ls) (λ k l. (link_passed cs rs ls i h k l).above)

pub ephemerons_sorted : (cs rs ls es : List ℕ) (i : ℕ) → ephemerons_fault cs rs ls es i ≡ None → Sorted 8 es
ephemerons_sorted cs rs ls es i h =
    rising (number 8 es) (entries 8 es) (λ k l. (ephemeron_passed cs rs ls es i h k l).above)
