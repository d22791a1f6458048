-- Why a cell survives: the records that hold it up, and what `why` answers and leaves.
-- The cells concerned are the cell itself and, repeatedly, the sources of the records that hold
-- cells concerned. The steps are the holders of these cells, in order of turn.
use Rattle.std.specs.Prelude.{◌≡◌, ℕ, zero, suc, ◌+◌, Bool, true, false, cond, ◌⊎◌, List, [], ◌∷◌, ◌++◌, length, get_or, drop, replicate, Some, None, Err, Option, Result, nat_le, slice_index_or, slice_set}
use Rattle.model.specs.declared.fault.Fault.{Fault}
use Rattle.model.specs.declared.fault.Cause.TheVariants.{StepsShort, NotSettled}
use Rattle.model.specs.declared.record.Record.{Record}
use Rattle.model.specs.declared.record.Record.TheVariants.{Root, Link, Ephemeron}
use Rattle.model.specs.declared.row.Row.{Row}
use Rattle.model.specs.declared.row.Why.{Why}
use Rattle.model.specs.Faults.{fault, unless, first, answer, left}
use Rattle.model.specs.Meaning.{Meaning, record_at}
use Rattle.model.specs.Schemes.{Scheme}
use Rattle.model.specs.Settling.{Rows, graded}
use Rattle.model.specs.Derivations.{Derivation, by_root, by_link, by_ephemeron, grade_of}
use Rattle.model.specs.Calls.{cell_fault}
use Rattle.model.specs.Grading.{Settled, rows_fault}

-- the cells that a record draws on
abbrev pub sources : Record → List ℕ
sources (Root t) = []
sources (Link a t k) = a ∷ []
sources (Ephemeron a b v) = a ∷ b ∷ []

-- .. and none where there is no record
abbrev pub sources_of : Option Record → List ℕ
sources_of None = []
sources_of (Some rec) = sources rec

-- the record that holds the cell of a row
abbrev pub holder_of : {G : Type 0} → Option (Row G) → ℕ
holder_of None = 0
holder_of (Some row) = row.holder

-- one flag for each cell, true for those concerned: the flags with those of the listed cells raised
abbrev pub marked : List ℕ → List Bool → List Bool
marked [] marks = marks
marked (a ∷ others) marks = marked others (slice_set marks a true)

-- cell c, if it is settled, noted at the place of its turn
abbrev pub placed : {G : Type 0} → ℕ → Option (Row G) → List ℕ → List ℕ
placed c None order = order
placed c (Some row) order = slice_set order row.turn c

-- .. and so with every cell from c on, whose rows are these
unfoldable pub in_order : {G : Type 0} → ℕ → Rows G → List ℕ → List ℕ
in_order c [] order = order
in_order c (x ∷ rows) order = in_order (c + 1) rows (placed c x order)

-- the settled cells in order of turn: cell c stands at place t where it was settled in turn t
unfoldable pub cells_by_turn : {G : Type 0} → Rows G → List ℕ
cells_by_turn rows = in_order 0 rows (replicate 1024 0)

-- the holders of the cells concerned among those settled before turn t, in order of turn. From
-- the last turn down, a cell that is marked adds its holder and marks the holder's sources.
unfoldable pub explain : {G : Type 0} → Meaning → Rows G → List ℕ → ℕ → List Bool → List ℕ
explain h rows order zero marks = []
explain h rows order (suc t) marks =
    let c = get_or order t 0 in
    let r = holder_of (slice_index_or rows c None) in
    cond (slice_index_or marks c false)
    (explain h rows order t (marked (sources_of (record_at h r)) marks) ++ (r ∷ []))
    (explain h rows order t marks)

-- the steps of cell c, settled in turn t: at first it alone is concerned
unfoldable pub steps_of : {G : Type 0} → Meaning → Rows G → ℕ → ℕ → List ℕ
steps_of h rows c t = explain h rows (cells_by_turn rows) (t + 1) (slice_set (replicate 1024 false) c true)

-- a list too short for the steps
abbrev pub room_fault : List ℕ → List ℕ → Option Fault
room_fault path steps = unless (nat_le (length path) (length steps)) (fault StepsShort 0)

-- what is told of a cell by its row: its grade and the count of its steps; nothing of a cell that is
-- unsettled, or where the list is too short
abbrev pub told_by : {G : Type 0} → Meaning → Rows G → ℕ → List ℕ → Option (Row G) → Result (Why G) Fault
told_by h rows c steps None = Err (fault NotSettled 2)
told_by h rows c steps (Some row) =
    let path = steps_of h rows c row.turn in
    answer (room_fault path steps) (record { grade = row.grade; count = length path })

-- .. and what the list then holds: the steps, and beyond them what it held
abbrev pub listed_by : {G : Type 0} → Meaning → Rows G → ℕ → List ℕ → Option (Row G) → List ℕ
listed_by h rows c steps None = steps
listed_by h rows c steps (Some row) =
    let path = steps_of h rows c row.turn in
    left (room_fault path steps) (path ++ drop (length path) steps) steps

abbrev pub told : {G : Type 0} → Meaning → Rows G → ℕ → List ℕ → Result (Why G) Fault
told h rows c steps = told_by h rows c steps (slice_index_or rows c None)

abbrev pub listed : {G : Type 0} → Meaning → Rows G → ℕ → List ℕ → List ℕ
listed h rows c steps = listed_by h rows c steps (slice_index_or rows c None)

-- too few rows, or a number that is no cell's: then nothing is graded
abbrev pub why_fault : {G : Type 0} → ℕ → Rows G → Option Fault
why_fault c rows = first (rows_fault rows) (cell_fault c 2)

-- a fault found before anything is graded; else what is told of the cell by the graded rows
abbrev pub unless_refused : {A : Type 0} → Option Fault → Result A Fault → Result A Fault
unless_refused None r = r
unless_refused (Some f) r = Err f

abbrev pub why_answer : {G : Type 0} → Scheme G → Meaning → ℕ → Rows G → List ℕ → Result (Why G) Fault
why_answer s h c rows steps = unless_refused (why_fault c rows) (told h (graded s h).rows c steps)

-- the first 1,024 rows are the rule's, the others stand
abbrev pub rows_after : {G : Type 0} → Scheme G → Meaning → ℕ → Rows G → Rows G
rows_after s h c rows = left (why_fault c rows) ((graded s h).rows ++ drop 1024 rows) rows

abbrev pub steps_after : {G : Type 0} → Scheme G → Meaning → ℕ → Rows G → List ℕ → List ℕ
steps_after s h c rows steps = left (why_fault c rows) (listed h (graded s h).rows c steps) steps

-- r stands in the list
abbrev pub Among : ℕ → List ℕ → Type 0
Among r [] = ⊥
Among r (x ∷ xs) = (r ≡ x) ⊎ Among r xs

-- cell c is held by record r, which is one of the steps
pub record Step {G : Type 0} (rows : Rows G) (steps : List ℕ) (c r : ℕ) : Type 0 where
  pub row : Row G
  pub settled : Settled rows c row
  pub held : row.holder ≡ r
  pub listed : Among r steps

-- every record of the derivation is a step, and every cell is derived by its own holder
abbrev pub BySteps : {G : Type 0} {h : Meaning} {c : ℕ} → Rows G → List ℕ → Derivation h c → Type 0
BySteps rows steps (by_root r t n e f) = Step rows steps t r
BySteps rows steps (by_link r a t n k e f d) = Step rows steps t r × BySteps rows steps d
BySteps rows steps (by_ephemeron r a b v n e f d₁ d₂) =
    Step rows steps v r × BySteps rows steps d₁ × BySteps rows steps d₂

-- the steps unfold into a derivation of the cell with that grade
pub record Unfolds {G : Type 0} (s : Scheme G) (h : Meaning) (rows : Rows G) (steps : List ℕ)
    (c : ℕ) (g : G) : Type 0 where
  pub witness : Derivation h c
  pub exact : grade_of s witness ≡ g
  pub by_steps : BySteps rows steps witness
