-- A grading takes at most 1,024 turns.
use Rattle.std.proofs.Common.{ℕ, zero, suc, ◌+◌, ◌≤◌, List, Some, None, Option, arith}
use Rattle.model.specs.declared.record.Record.{Record}
use Rattle.model.specs.declared.row.Offer.{Offer}
use Rattle.model.specs.Schemes.{Scheme, Lawful}
use Rattle.model.specs.Meaning.{Meaning, WellFormed}
use Rattle.model.specs.Settling.{State, filled, best, settle_by, step, settle, graded}
use Rattle.model.proofs.Steps.{fresh}
use Rattle.model.proofs.Turns.{graded_ordered}
use Rattle.laws.specs.Order.{Timely}

-- each step takes at most one turn
module _ {G : Type 0} (s : Scheme G) (h : Meaning) where
  one_turn : (st : State G) (x : Option (Offer G)) → (settle_by st x).turn ≤ suc st.turn
  one_turn st None = omega arith
  one_turn st (Some o) = omega arith

  turns_within : (ps : List (ℕ × Record)) (fuel : ℕ) (st : State G)
      → (settle s h ps fuel st).turn ≤ fuel + st.turn
  unfolding settle
  turns_within ps zero st = omega arith
  turns_within ps (suc fuel) st =
      omega (arith, turns_within ps fuel (step s h ps st), one_turn st (best s h st.rows ps))

  graded_within : (graded s h).turn ≤ 1024
  unfolding graded
  graded_within = omega (arith, turns_within (filled h.records) 1024 (fresh 1024))

module _ {G : Type 0} (s : Scheme G) (law : Lawful s) (h : Meaning) (wf : WellFormed h) where
  pub graded_timely : Timely (graded s h).rows
  graded_timely c row e =
      omega (arith, (graded_ordered s law h wf).numbered.below c row e, graded_within s h)
