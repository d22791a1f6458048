-- What a call's rows, lists and answer tell of the heap before it.
use Rattle.std.proofs.Common.{◌≡◌, ℕ, List, ◌++◌, length, get_or, take, drop, IfOk, Some, None, Option, sym, refl, subst, arith}
use Rattle.std.proofs.lemmas.List.{get_or_append_left, take_at}
use Rattle.model.specs.declared.fault.Fault.{Fault}
use Rattle.model.specs.declared.row.Row.{Row}
use Rattle.model.specs.declared.row.Why.{Why}
use Rattle.model.specs.Faults.{answer, left}
use Rattle.model.specs.Meaning.{Meaning, WellFormed}
use Rattle.model.specs.Schemes.{Scheme, Lawful}
use Rattle.model.specs.Settling.{Rows, graded}
use Rattle.model.specs.Derivations.{Best}
use Rattle.model.specs.Grading.{rows_fault, Tells, Settled}
use Rattle.model.specs.Explaining.{steps_of, room_fault, told_by, told, listed, why_fault, why_answer, rows_after}
use Rattle.model.specs.Explaining.{steps_after, Unfolds}
use Rattle.model.specs.Sweeping.{sweep_answer, cells_swept, records_swept}
use Rattle.model.specs.Sweeping.{over, sweep_fault, kept, dropped_cells, cleared_records, Dropped, Cleared, Lists}
use Rattle.model.proofs.Graded.{graded_tells, settled_best}
use Rattle.model.proofs.Steps.{graded_done}
use Rattle.laws.specs.Concerned.{Steps}
use Rattle.laws.specs.Reference.{Call, put, root, link, tie, erase, grade, why, sweep}
use Rattle.laws.specs.Runs.{RowsTell, WhyTells, SweepTells, TellsTruly}
use Rattle.laws.proofs.Lists.{lists_dropped, lists_cleared}
use Rattle.laws.proofs.Swept.{keeps_exactly, keeps_grades}
use Rattle.laws.proofs.Telling.{told_so, graded_unfold, graded_steps}

-- where there is no fault the new is left
left_new : {A : Type 0} (f : Option Fault) (new old : A) → f ≡ None → left f new old ≡ new
left_new f new old e = rw e

module _ {G : Type 0} (s : Scheme G) (law : Lawful s) (h : Meaning) (wf : WellFormed h) where
  -- the rule's rows at the front of a table tell the truth
  front_tells : (rest : Rows G) → RowsTell s h ((graded s h).rows ++ rest)
  front_tells rest c l =
      let wide = (graded_done s law h wf).0.wide in
      subst (Tells s h c) (sym (get_or_append_left (graded s h).rows rest None c (omega arith)))
      (graded_tells s law h wf c)

  left_tells : (f : Option Fault) (rows : Rows G) → f ≡ None
      → RowsTell s h (left f ((graded s h).rows ++ drop 1024 rows) rows)
  left_tells f rows e = subst (RowsTell s h) (sym (left_new f _ rows e)) (front_tells (drop 1024 rows))

  -- an explanation tells the cell's best grade, and its steps unfold
  module _ (c : ℕ) (steps : List ℕ) where
    told_best : (x : Option (Row G)) → get_or (graded s h).rows c None ≡ x
        → IfOk (told_by h (graded s h).rows c steps x) (λ w. Best s h c w.grade)
    told_best None e = tt
    told_best (Some row) e = go (room_fault (steps_of h (graded s h).rows c row.turn) steps)
      where
        go : (f : Option Fault)
            → IfOk (answer f (record { grade = row.grade; count = length (steps_of h (graded s h).rows c row.turn) }))
            (λ (w : Why G). Best s h c w.grade)
        go None = settled_best s law h wf c row e
        go (Some f) = tt

    -- what holds of the steps of the cell and its grade holds of the answer and the list
    module _ (P : List ℕ → G → Type 0)
        (holds : (row : Row G) → Settled (graded s h).rows c row
        → P (steps_of h (graded s h).rows c row.turn) row.grade) where
      told_holds : IfOk (told h (graded s h).rows c steps) (λ w.
          P (take w.count (listed h (graded s h).rows c steps)) w.grade)
      told_holds =
          told_so h (graded s h).rows c P holds steps (listed h (graded s h).rows c steps)
          (told h (graded s h).rows c steps) refl refl

      answer_holds : (rows : Rows G) (f : Option Fault) → why_fault c rows ≡ f
          → IfOk (why_answer s h c rows steps) (λ w.
          P (take w.count (steps_after s h c rows steps)) w.grade)
      answer_holds rows None e = rw e told_holds
      answer_holds rows (Some f) e = rw e tt

    front_graded : (rows : Rows G) → why_fault c rows ≡ None → take 1024 (rows_after s h c rows) ≡ (graded s h).rows
    front_graded rows e =
        rw e (take_at (graded s h).rows (drop 1024 rows) 1024 (graded_done s law h wf).0.wide)

    module _ (rows : Rows G) where
      best_by : (f : Option Fault) → why_fault c rows ≡ f
          → IfOk (why_answer s h c rows steps) (λ w. Best s h c w.grade)
      best_by None e = rw e (told_best (get_or (graded s h).rows c None) refl)
      best_by (Some f) e = rw e tt

      unfolds_by : (f : Option Fault) → why_fault c rows ≡ f → IfOk (why_answer s h c rows steps) (λ w.
          Unfolds s h (take 1024 (rows_after s h c rows)) (take w.count (steps_after s h c rows steps))
          c w.grade)
      unfolds_by None e =
          rw (front_graded rows e)
          (answer_holds (λ xs g. Unfolds s h (graded s h).rows xs c g) (graded_unfold s law h wf c) rows None e)
      unfolds_by (Some f) e = rw e tt

      steps_by : (f : Option Fault) → why_fault c rows ≡ f → IfOk (why_answer s h c rows steps) (λ w.
          Steps h (take 1024 (rows_after s h c rows)) c (take w.count (steps_after s h c rows steps)))
      steps_by None e =
          rw (front_graded rows e)
          (answer_holds (λ xs g. Steps h (graded s h).rows c xs) (graded_steps s law h wf c) rows None e)
      steps_by (Some f) e = rw e tt

      why_tells : WhyTells s h h c rows steps
      why_tells = record {
        rows_tell = λ e. left_tells (why_fault c rows) rows e;
        best = best_by (why_fault c rows) refl;
        unfolds = unfolds_by (why_fault c rows) refl;
        explains = steps_by (why_fault c rows) refl;
      }

  -- a sweep's lists name what it took away
  front_lists : (P : ℕ → Type 0) (xs old : List ℕ) → Lists P xs → Lists P (take (length xs) (over xs old))
  front_lists P xs old l = subst (Lists P) (sym (take_at xs (drop (length xs) old) (length xs) refl)) l

  module _ (limit : G) (rows : Rows G) (cells records : List ℕ) where
    sweep_tells : SweepTells s h h limit rows cells records
    sweep_tells = record {
      rows_tell = λ e. left_tells (sweep_fault rows cells records) rows e;
      keeps = λ e. rw e (keeps_exactly s law h wf limit);
      grades = λ e. rw e (keeps_grades s law h wf limit);
      dropped = dropped_by (sweep_fault rows cells records) refl;
      cleared = cleared_by (sweep_fault rows cells records) refl;
    }
      where
        dropped_by : (f : Option Fault) → sweep_fault rows cells records ≡ f
            → IfOk (sweep_answer s h limit rows cells records) (λ k.
            Lists (Dropped s limit h) (take k.cells (cells_swept s h limit rows cells records)))
        dropped_by None e =
            rw e (front_lists (Dropped s limit h) (dropped_cells (kept s limit h) h) cells
            (lists_dropped s law h wf limit))
        dropped_by (Some f) e = rw e tt

        cleared_by : (f : Option Fault) → sweep_fault rows cells records ≡ f
            → IfOk (sweep_answer s h limit rows cells records) (λ k.
            Lists (Cleared s limit h) (take k.records (records_swept s h limit rows cells records)))
        cleared_by None e =
            rw e (front_lists (Cleared s limit h) (cleared_records (kept s limit h) h) records
            (lists_cleared s law h wf limit))
        cleared_by (Some f) e = rw e tt

pub tells_truly : (h : Meaning) → WellFormed h → (call : Call List) → TellsTruly h h call
tells_truly h wf (put c n) = tt
tells_truly h wf (root r t) = tt
tells_truly h wf (link r a t k) = tt
tells_truly h wf (tie r a b v) = tt
tells_truly h wf (erase r) = tt
tells_truly h wf (grade k s law rows) = λ e. left_tells s law h wf (rows_fault rows) rows e
tells_truly h wf (why k s law c rows steps) = why_tells s law h wf c steps rows
tells_truly h wf (sweep k s law limit rows cells records) = sweep_tells s law h wf limit rows cells records
