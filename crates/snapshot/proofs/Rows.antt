-- The pairs of a head judged one after the other.
use Rattle.std.proofs.Common.{◌<◌, ◌≡◌, ◌≢◌, ℕ, zero, suc, ◌%◌, Bool, true, false, ◌&&◌, ◌==◌, List, get_or, Some, None, Option, sym, refl, ap, ◌∙◌}
use Rattle.std.proofs.lemmas.Bool.{eq-eqb, eqb-true, ne_eqb}
use Rattle.model.specs.declared.fault.Fault.{Fault}
use Rattle.model.specs.declared.fault.Cause.TheVariants.{SectionPlace, SectionLength}
use Rattle.model.specs.Faults.{fault, unless, first}
use Rattle.snapshot.specs.declared.header.Pair.{Pair}
use Rattle.snapshot.specs.declared.header.Layout.{Layout}
use Rattle.snapshot.specs.Header.{rows_of, end, places_fault, lengths_fault}
use Rattle.snapshot.specs.Entries.{first_of}
use Rattle.snapshot.proofs.Firsts.{none_at}
use Rattle.snapshot.proofs.Order.{unless_none}

abbrev pub Row : Type 0
Row = Pair × ℕ × ℕ

abbrev pub row : List Row → ℕ → Row
row rs k = get_or rs k (record { offset = 0; size = 0 }, 0, 0)

-- where section k has to start
abbrev pub start : List Row → ℕ → ℕ
start rs zero = 36
start rs (suc k) = end (row rs k).0

abbrev pub place_fault : List Row → ℕ → Option Fault
place_fault rs k = unless ((row rs k).0.offset == start rs k) (fault SectionPlace (row rs k).1)

abbrev pub length_fault : List Row → ℕ → Option Fault
length_fault rs k = unless ((row rs k).0.size % (row rs k).2 == 0) (fault SectionLength (row rs k).1)

pub place_holds : (rs : List Row) (k e : ℕ) → e ≡ start rs k → (row rs k).0.offset ≡ e → place_fault rs k ≡ None
place_holds rs k e p q = rw (eq-eqb (row rs k).0.offset (start rs k) (q ∙ p))

pub place_fails : (rs : List Row) (k e : ℕ) → e ≡ start rs k → (row rs k).0.offset ≢ e →
    place_fault rs k ≡ Some (fault SectionPlace (row rs k).1)
place_fails rs k e p q = rw (ne_eqb (row rs k).0.offset (start rs k) (λ r. q (r ∙ sym p)))

pub length_holds : (rs : List Row) (k : ℕ) → (row rs k).0.size % (row rs k).2 ≡ 0 → length_fault rs k ≡ None
length_holds rs k p = rw p

pub length_fails : (rs : List Row) (k : ℕ) → (row rs k).0.size % (row rs k).2 ≢ 0 →
    length_fault rs k ≡ Some (fault SectionLength (row rs k).1)
length_fails rs k p = rw (ne_eqb ((row rs k).0.size % (row rs k).2) 0 p)

first_assoc : (a b c : Option Fault) → first a (first b c) ≡ first (first a b) c
first_assoc None b c = refl
first_assoc (Some f) b c = refl

unless_both : (a b : Bool) (f : Fault) → unless (a && b) f ≡ first (unless a f) (unless b f)
unless_both true b f = refl
unless_both false b f = refl

pub lengths_by_row : (l : Layout) → lengths_fault l ≡ first_of (length_fault (rows_of l)) 4
unfolding first_of
lengths_by_row l =
    let f = length_fault (rows_of l) in
    first_assoc (f 0) (f 1) (first (f 2) (f 3)) ∙ first_assoc (first (f 0) (f 1)) (f 2) (f 3)

pub places_by_row : (l : Layout) (n : ℕ) → places_fault l n ≡
    first (first_of (place_fault (rows_of l)) 4) (unless (end l.ephemerons == n) (fault SectionPlace 28))
unfolding first_of
places_by_row l n =
    let f = place_fault (rows_of l) in
    let z = unless (end l.ephemerons == n) (fault SectionPlace 28) in
    ap (λ (o : Option Fault). first (f 0) (first (f 1) (first (f 2) o)))
    (unless_both (l.ephemerons.offset == end l.links) (end l.ephemerons == n) (fault SectionPlace 28))
    ∙ (first_assoc (f 0) (f 1) (first (f 2) (first (f 3) z))
    ∙ (first_assoc (first (f 0) (f 1)) (f 2) (first (f 3) z)
    ∙ first_assoc (first (first (f 0) (f 1)) (f 2)) (f 3) z))

-- where all rows stand, the last section has to end with the file
pub places_end : (l : Layout) (n : ℕ) (rs : List Row) (k e : ℕ) → rs ≡ rows_of l → k ≡ 4 → e ≡ start rs k →
    first_of (place_fault rs) k ≡ None → places_fault l n ≡ unless (e == n) (fault SectionPlace 28)
places_end l n rs k e p q s h =
    let none = rw p at (rw q at h) in
    let ends = rw p at (rw q at s) in
    rw (places_by_row l n, none, ends)

-- what no fault says of each row
pub starts_at : (rs : List Row) → first_of (place_fault rs) 4 ≡ None → (k : ℕ) → k < 4 →
    (row rs k).0.offset ≡ start rs k
starts_at rs h k l = eqb-true _ _ (unless_none ((row rs k).0.offset == start rs k)
    (fault SectionPlace (row rs k).1) (none_at (place_fault rs) 4 h k l))

pub whole_at : (rs : List Row) → first_of (length_fault rs) 4 ≡ None → (k : ℕ) → k < 4 →
    (row rs k).0.size % (row rs k).2 ≡ 0
whole_at rs h k l = eqb-true _ _ (unless_none ((row rs k).0.size % (row rs k).2 == 0)
    (fault SectionLength (row rs k).1) (none_at (length_fault rs) 4 h k l))
