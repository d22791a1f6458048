-- What is told of a cell: its steps unfold, and are those of the cells concerned.
use Rattle.std.proofs.Common.{◌≡◌, ℕ, List, ◌++◌, length, get_or, take, drop, IfOk, Some, None, Option, Result, sym, refl, ap, ◌∙◌, subst}
use Rattle.std.proofs.lemmas.List.{take_at}
use Rattle.model.specs.declared.fault.Fault.{Fault}
use Rattle.model.specs.declared.row.Row.{Row}
use Rattle.model.specs.declared.row.Why.{Why}
use Rattle.model.specs.Faults.{answer, left}
use Rattle.model.specs.Meaning.{Meaning, WellFormed}
use Rattle.model.specs.Schemes.{Scheme, Lawful}
use Rattle.model.specs.Settling.{Rows, graded}
use Rattle.model.specs.Grading.{Settled}
use Rattle.model.specs.Explaining.{steps_of, room_fault, told_by, told, listed_by, listed, Unfolds}
use Rattle.model.proofs.Steps.{graded_done}
use Rattle.model.proofs.Turns.{graded_ordered}
use Rattle.laws.specs.Concerned.{Steps}
use Rattle.laws.proofs.Stepping.{finds_steps}
use Rattle.laws.proofs.Timely.{graded_timely}
use Rattle.laws.proofs.Unfolding.{settled_below, steps_unfold}

-- what holds of the steps of a settled cell and of its grade holds of what is told and listed
module _ {G : Type 0} (h : Meaning) (rows : Rows G) (c : ℕ) (P : List ℕ → G → Type 0)
    (holds : (row : Row G) → Settled rows c row → P (steps_of h rows c row.turn) row.grade)
    (steps after : List ℕ) (r : Result (Why G) Fault) where
  abbrev ByAnswer : Result (Why G) Fault → Type 0
  ByAnswer z = IfOk z (λ w. P (take w.count after) w.grade)

  by_row : (x : Option (Row G)) → get_or rows c None ≡ x → r ≡ told_by h rows c steps x
      → after ≡ listed_by h rows c steps x → ByAnswer r
  by_row None e p q = subst ByAnswer (sym p) tt
  by_row (Some row) e p q = go (room_fault path steps) p q
    where
      path : List ℕ
      path = steps_of h rows c row.turn

      go : (f : Option Fault) → r ≡ answer f (record { grade = row.grade; count = length path })
          → after ≡ left f (path ++ drop (length path) steps) steps → ByAnswer r
      go None p q =
          let rest = drop (length path) steps in
          let front = ap (take (length path)) q ∙ take_at path rest (length path) refl in
          subst ByAnswer (sym p) (subst (λ (z : List ℕ). P z row.grade) (sym front) (holds row e))
      go (Some f) p q = subst ByAnswer (sym p) tt

  pub told_so : r ≡ told h rows c steps → after ≡ listed h rows c steps → ByAnswer r
  told_so p q = by_row (get_or rows c None) refl p q

-- the steps in the rows of a grading
module _ {G : Type 0} (s : Scheme G) (law : Lawful s) (h : Meaning) (wf : WellFormed h) (c : ℕ) (row : Row G)
    (e : Settled (graded s h).rows c row) where
  pub graded_unfold : Unfolds s h (graded s h).rows (steps_of h (graded s h).rows c row.turn) c row.grade
  graded_unfold =
      let sound = (graded_done s law h wf).0 in
      steps_unfold s h (graded s h).rows (graded s h).turn sound.wide sound.backed
      (graded_ordered s law h wf).numbered (graded_timely s law h wf) c
      (settled_below (graded s h).rows sound.wide c row e) row e

  pub graded_steps : Steps h (graded s h).rows c (steps_of h (graded s h).rows c row.turn)
  graded_steps =
      let sound = (graded_done s law h wf).0 in
      finds_steps s h (graded s h).rows (graded s h).turn sound.wide sound.backed
      (graded_ordered s law h wf).numbered (graded_timely s law h wf) c row e
