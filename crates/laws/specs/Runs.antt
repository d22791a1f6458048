-- The law upon runs: whatever calls follow one another, a live heap does what the reference model
-- does, and tells the truth about it. What a call answers and leaves is said by the definitions
-- that its contract cites.
use Rattle.std.specs.Prelude.{◌≡◌, ℕ, ◌<◌, List, [], ◌∷◌, take, IfOk, None, Option, slice_index_or}
use Rattle.std.specs.Result.{result_err}
use Rattle.model.specs.declared.fault.Fault.{Fault}
use Rattle.model.specs.Faults.{answer}
use Rattle.model.specs.Meaning.{Meaning}
use Rattle.model.specs.Schemes.{Scheme}
use Rattle.model.specs.Settling.{Rows}
use Rattle.model.specs.Calls.{put_fault, root_fault, link_fault, tie_fault, erase_fault}
use Rattle.model.specs.Calls.{put_after, root_after, link_after, tie_after, erase_after}
use Rattle.model.specs.Derivations.{Best}
use Rattle.model.specs.Grading.{rows_fault, grade_answer, grade_after, Tells}
use Rattle.model.specs.Explaining.{why_fault, why_answer, rows_after, steps_after, Unfolds}
use Rattle.model.specs.Sweeping.{sweep_fault, sweep_answer, sweep_after, rows_swept, cells_swept, records_swept}
use Rattle.model.specs.Sweeping.{Dropped, Cleared, KeepsExactly, KeepsGrades, Lists}
use Rattle.laws.specs.Concerned.{Steps}
use Rattle.laws.specs.Reference.{Call, told, Takes, Same}
use Rattle.laws.specs.Reference.{put, root, link, tie, erase, grade, why, sweep}

-- the fault with which a heap refuses a call, if it does
abbrev pub refusal : Meaning → Call List → Option Fault
refusal h (put cell size) = result_err (answer (put_fault h cell size) (tt {0}))
refusal h (root number target) = result_err (answer (root_fault h number target) (tt {0}))
refusal h (link number source target strength) =
    result_err (answer (link_fault h number source target strength) (tt {0}))
refusal h (tie number table key value) = result_err (answer (tie_fault h number table key value) (tt {0}))
refusal h (erase number) = result_err (answer (erase_fault h number) (tt {0}))
refusal h (grade k s law rows) = result_err (grade_answer s h rows)
refusal h (why k s law cell rows steps) = result_err (why_answer s h cell rows steps)
refusal h (sweep k s law limit rows cells records) = result_err (sweep_answer s h limit rows cells records)

-- the heap after a call
abbrev pub after_call : Meaning → Call List → Meaning
after_call h (put cell size) = put_after h cell size
after_call h (root number target) = root_after h number target
after_call h (link number source target strength) = link_after h number source target strength
after_call h (tie number table key value) = tie_after h number table key value
after_call h (erase number) = erase_after h number
after_call h (grade k s law rows) = h
after_call h (why k s law cell rows steps) = h
after_call h (sweep k s law limit rows cells records) = sweep_after s h limit rows cells records

-- the first 1,024 rows tell each cell's best derivation in the model, and are absent where it has none
abbrev pub RowsTell : {G : Type 0} → Scheme G → Meaning → Rows G → Type 0
RowsTell s m rows = (c : ℕ) → c < 1024 → Tells s m c (slice_index_or rows c None)

-- what a grading of h tells of the model m
abbrev pub GradeTells : {G : Type 0} → Scheme G → Meaning → Meaning → Rows G → Type 0
GradeTells s h m rows = rows_fault rows ≡ None → RowsTell s m (grade_after s h rows)

-- what an explanation tells: its rows, those of a refused one too once they are graded; and, where it
-- is accepted, the cell's best grade and the steps of the cells concerned, which unfold to a
-- derivation of exactly that grade
pub record WhyTells {G : Type 0} (s : Scheme G) (h m : Meaning) (c : ℕ) (rows : Rows G)
    (steps : List ℕ) : Type 0 where
  pub rows_tell : why_fault c rows ≡ None → RowsTell s m (rows_after s h c rows)
  pub best : IfOk (why_answer s h c rows steps) (λ w. Best s m c w.grade)
  pub unfolds : IfOk (why_answer s h c rows steps) (λ w.
      Unfolds s m (take 1024 (rows_after s h c rows)) (take w.count (steps_after s h c rows steps))
      c w.grade)
  pub explains : IfOk (why_answer s h c rows steps) (λ w.
      Steps m (take 1024 (rows_after s h c rows)) c (take w.count (steps_after s h c rows steps)))

-- what an accepted sweep does and tells: it keeps exactly the cells that the model held within the
-- limit, each with the grade that it had; its lists name the dropped cells and the records that
-- named one; its rows tell the grading before
pub record SweepTells {G : Type 0} (s : Scheme G) (h m : Meaning) (limit : G) (rows : Rows G)
    (cells records : List ℕ) : Type 0 where
  pub rows_tell : sweep_fault rows cells records ≡ None
      → RowsTell s m (rows_swept s h limit rows cells records)
  pub keeps : sweep_fault rows cells records ≡ None
      → KeepsExactly s limit m (sweep_after s h limit rows cells records)
  pub grades : sweep_fault rows cells records ≡ None
      → KeepsGrades s limit m (sweep_after s h limit rows cells records)
  pub dropped : IfOk (sweep_answer s h limit rows cells records) (λ k.
      Lists (Dropped s limit m) (take k.cells (cells_swept s h limit rows cells records)))
  pub cleared : IfOk (sweep_answer s h limit rows cells records) (λ k.
      Lists (Cleared s limit m) (take k.records (records_swept s h limit rows cells records)))

abbrev pub TellsTruly : Meaning → Meaning → Call List → Type 0
TellsTruly h m (put cell size) = Unit {0}
TellsTruly h m (root number target) = Unit {0}
TellsTruly h m (link number source target strength) = Unit {0}
TellsTruly h m (tie number table key value) = Unit {0}
TellsTruly h m (erase number) = Unit {0}
TellsTruly h m (grade k s law rows) = GradeTells s h m rows
TellsTruly h m (why k s law cell rows steps) = WhyTells s h m cell rows steps
TellsTruly h m (sweep k s law limit rows cells records) = SweepTells s h m limit rows cells records

-- A heap h and a model m go together through the calls: they answer both questions alike; the model
-- can take the next call, and however it takes it, the heap refuses with exactly the fault that the
-- model finds, tells the truth about the model, and they go together through the rest.
abbrev pub Together : Meaning → Meaning → List (Call List) → Type 0
Together h m [] = Same h m
Together h m (call ∷ calls) =
    Same h m
    × ((f : Option Fault) × (next : Meaning) × Takes (told call) f m next)
    × ((f : Option Fault) (next : Meaning) → Takes (told call) f m next
    → (refusal h call ≡ f) × TellsTruly h m call × Together (after_call h call) next calls)
