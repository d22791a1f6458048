-- What is told of a cell, and what `why` answers and leaves.
use Rattle.std.proofs.Common.{◌≡◌, ℕ, ◌<◌, ◌≤◌, List, length, take, IfOk, None, Result, sym, subst}
use Rattle.std.proofs.lemmas.Bool.{lt-ltb}
use Rattle.model.specs.declared.fault.Fault.{Fault}
use Rattle.model.specs.declared.row.Row.{Row}
use Rattle.model.specs.declared.row.Why.{Why}
use Rattle.model.specs.Faults.{left}
use Rattle.model.specs.Schemes.{Scheme, Lawful}
use Rattle.model.specs.Meaning.{Meaning, WellFormed}
use Rattle.model.specs.Settling.{Rows, graded}
use Rattle.model.specs.Grading.{grade_after, Settled}
use Rattle.model.specs.Explaining.{steps_of, told, listed, why_fault}
use Rattle.model.specs.Explaining.{why_answer, rows_after, steps_after, Unfolds}
use Rattle.laws.specs.Concerned.{Steps}
use Rattle.laws.specs.Order.{Timely}
use Rattle.laws.proofs.Timely.{graded_timely}
use Rattle.laws.proofs.Telling.{told_so, graded_unfold, graded_steps}
use Rattle.engine.proofs.Front.{rows_fine, filled_by, front_graded}

-- which fault is found before anything is graded
module _ {G : Type 0} (lent : Rows G) (c : ℕ) (enough : 1024 ≤ length lent) where
  pub no_fault : c < 1024 → why_fault c lent ≡ None
  no_fault l = rw (rows_fine lent enough, lt-ltb c 1024 l)

module _ {G : Type 0} (s : Scheme G) (law : Lawful s) (h : Meaning) (wf : WellFormed h) where
  module _ (lent after : Rows G) (enough : 1024 ≤ length lent)
      (is-after : after ≡ grade_after s h lent) where
    -- the rows that `why` reads are those of the rule
    is_graded : take 1024 after ≡ (graded s h).rows
    is_graded = front_graded s law h wf lent after enough is-after

    pub front_timely : Timely (take 1024 after)
    front_timely = subst Timely (sym is_graded) (graded_timely s law h wf)

    module _ (c : ℕ) (small : c < 1024) (steps : List ℕ) where
      pub answers : (r : Result (Why G) Fault) → r ≡ told h (take 1024 after) c steps
          → r ≡ why_answer s h c lent steps
      answers r e = rw (no_fault lent c enough small) (rw is_graded at e)

      pub fills : after ≡ rows_after s h c lent
      fills = rw (no_fault lent c enough small) (filled_by lent enough s h after is-after)

      pub lists : (left : List ℕ) → left ≡ listed h (take 1024 after) c steps
          → left ≡ steps_after s h c lent steps
      lists left e = rw (no_fault lent c enough small) (rw is_graded at e)

      -- what holds of the steps in the rows of a grading holds of those that are listed
      module _ (left : List ℕ) (r : Result (Why G) Fault) (p : r ≡ told h (take 1024 after) c steps)
          (q : left ≡ listed h (take 1024 after) c steps) where
        listed_so : (P : Rows G → List ℕ → G → Type 0)
            → ((row : Row G) → Settled (graded s h).rows c row
            → P (graded s h).rows (steps_of h (graded s h).rows c row.turn) row.grade)
            → IfOk r (λ w. P (take 1024 after) (take w.count left) w.grade)
        listed_so P holds =
            told_so h (take 1024 after) c (P (take 1024 after))
            (subst (λ (z : Rows G). (row : Row G) → Settled z c row
            → P z (steps_of h z c row.turn) row.grade) (sym is_graded) holds)
            steps left r p q

        pub unfolds : IfOk r (λ w. Unfolds s h (take 1024 after) (take w.count left) c w.grade)
        unfolds = listed_so (λ rows xs g. Unfolds s h rows xs c g) (graded_unfold s law h wf c)

        pub concerns : IfOk r (λ w. Steps h (take 1024 after) c (take w.count left))
        concerns = listed_so (λ rows xs g. Steps h rows c xs) (graded_steps s law h wf c)
