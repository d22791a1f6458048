-- What a record can still do to the grades found so far, and when nothing is left to do.
use Rattle.std.specs.Prelude.{◌≡◌, ℕ, ◌<◌, Bool, true, false, ◌&&◌, List, length, is_some, Some, None, Option, nat_lt, slice_index_or}
use Rattle.model.specs.declared.record.Record.{Record}
use Rattle.model.specs.declared.record.Record.TheVariants.{Root, Link, Ephemeron}
use Rattle.model.specs.declared.scheme.Rank.{Rank}
use Rattle.model.specs.declared.scheme.Rank.TheVariants.{Before, Same, After}
use Rattle.model.specs.Schemes.{Scheme}
use Rattle.model.specs.Meaning.{Meaning, cell_at, record_at}
use Rattle.model.specs.Settling.{target, size_or_none}

-- one place for each cell: None while it has no grade
abbrev pub Grades : Type 0 → Type 0
Grades G = List (Option G)

abbrev pub with_grade : {G : Type 0} → Option G → (G → Option G) → Option G
with_grade None f = None
with_grade (Some g) f = f g

-- the grade that record r gives its target; none unless all its sources have grades
abbrev pub given_by : {G : Type 0} → Scheme G → Meaning → Grades G → ℕ → Record → Option G
given_by s h gs r (Root t) = Some (s.start r (size_or_none (cell_at h t)))
given_by s h gs r (Link a t k) =
    with_grade (slice_index_or gs a None) (λ g. Some (s.along r (size_or_none (cell_at h t)) g k))
given_by s h gs r (Ephemeron a b v) =
    with_grade (slice_index_or gs a None) (λ x.
    with_grade (slice_index_or gs b None) (λ y. Some (s.join r (size_or_none (cell_at h v)) x y)))

abbrev pub is_before : Rank → Bool
is_before Before = true
is_before Same = false
is_before After = false

-- a grade is better than what a cell has
abbrev pub betters : {G : Type 0} → Scheme G → G → Option G → Bool
betters s g None = true
betters s g (Some old) = is_before (s.rank g old)

-- a record that gives this grade to cell c changes the grades
abbrev pub changes : {G : Type 0} → Scheme G → Grades G → ℕ → Option G → Bool
changes s gs c None = false
changes s gs c (Some g) = betters s g (slice_index_or gs c None) && nat_lt c (length gs)

-- what stands at number r changes the grades
abbrev pub moves : {G : Type 0} → Scheme G → Meaning → Grades G → ℕ → Option Record → Bool
moves s h gs r None = false
moves s h gs r (Some rec) = changes s gs (target rec) (given_by s h gs r rec)

-- no record of the heap changes the grades
abbrev pub AtRest : {G : Type 0} → Scheme G → Meaning → Grades G → Type 0
AtRest s h gs = (r : ℕ) → r < 4096 → moves s h gs r (record_at h r) ≡ false

-- all sources of a record have grades
abbrev pub all_graded : {G : Type 0} → Grades G → Record → Bool
all_graded gs (Root t) = true
all_graded gs (Link a t k) = is_some (slice_index_or gs a None)
all_graded gs (Ephemeron a b v) = is_some (slice_index_or gs a None) && is_some (slice_index_or gs b None)

-- a record stands there, and all its sources have grades
abbrev pub ready_by : {G : Type 0} → Grades G → Option Record → Bool
ready_by gs None = false
ready_by gs (Some rec) = all_graded gs rec
