-- What `grade` promises of its answer and of the rows that it leaves.
use Rattle.std.proofs.Common.{◌≡◌, ℕ, ◌<◌, ◌≤◌, ◌++◌, length, get_or, take, drop, None, Ok, sym, ap, ◌∙◌, subst, arith}
use Rattle.std.proofs.lemmas.List.{get_or_append_left, take_at}
use Rattle.model.specs.declared.row.Counts.{Counts}
use Rattle.model.specs.Schemes.{Scheme, Lawful}
use Rattle.model.specs.Meaning.{Meaning, WellFormed}
use Rattle.model.specs.Settling.{Rows, graded, weighed}
use Rattle.model.specs.Grading.{grade_answer, grade_after, Tells, Numbered, Worsens, AllBacked}
use Rattle.model.proofs.Graded.{graded_tells}
use Rattle.model.proofs.Steps.{graded_done}
use Rattle.model.proofs.Turns.{graded_ordered}
use Rattle.laws.specs.Order.{InOrder, OnlyInOrder}
use Rattle.laws.proofs.Ordering.{graded_in_order, only_graded}
use Rattle.engine.specs.Working.{all_turns}
use Rattle.engine.proofs.Front.{rows_fine}
use Rattle.engine.proofs.Rounds.{rows_graded, turn_graded, count_graded}

module _ {G : Type 0} (s : Scheme G) (law : Lawful s) (h : Meaning) (wf : WellFormed h) where
  module _ (lent front : Rows G) (enough : 1024 ≤ length lent) (is-done : front ≡ (all_turns s h).rows) where
    is_graded : front ≡ (graded s h).rows
    is_graded = is-done ∙ rows_graded s law h wf

    length_front : length front ≡ 1024
    length_front = ap length is_graded ∙ (graded_done s law h wf).0.wide

    pub answers : (k : Counts) → k.settled ≡ (all_turns s h).turn → k.weighed ≡ (all_turns s h).count
        → Ok k ≡ grade_answer s h lent
    answers k e f =
        let e' : k.settled ≡ (graded s h).turn = e ∙ turn_graded s law h wf in
        let f' : k.weighed ≡ weighed s h = f ∙ count_graded s law h wf in
        rw (rows_fine lent enough) (λ i. Ok (record { settled = e' i; weighed = f' i }))

    pub fills : front ++ drop 1024 lent ≡ grade_after s h lent
    fills = rw (rows_fine lent enough) (ap (λ (z : Rows G). z ++ drop 1024 lent) is_graded)

    pub tells : (c : ℕ) → c < 1024 → Tells s h c (get_or (front ++ drop 1024 lent) c None)
    tells c l =
        let wide = length_front in
        let e : get_or (front ++ drop 1024 lent) c None ≡ get_or (graded s h).rows c None =
        get_or_append_left front (drop 1024 lent) None c (omega arith)
        ∙ ap (λ (z : Rows G). get_or z c None) is_graded in
        subst (Tells s h c) (sym e) (graded_tells s law h wf c)

    -- the rows that grading fills, and the laws of their turns
    front_rows : take 1024 (front ++ drop 1024 lent) ≡ (graded s h).rows
    front_rows = take_at front (drop 1024 lent) 1024 length_front ∙ is_graded

    pub numbered : (count : ℕ) → count ≡ (all_turns s h).turn
        → Numbered (take 1024 (front ++ drop 1024 lent)) count
    numbered count e =
        let same : count ≡ (graded s h).turn = e ∙ turn_graded s law h wf in
        subst (λ (z : Rows G). Numbered z count) (sym front_rows)
        (subst (Numbered (graded s h).rows) (sym same) (graded_ordered s law h wf).numbered)

    pub worsens : Worsens s (take 1024 (front ++ drop 1024 lent))
    worsens = subst (Worsens s) (sym front_rows) (graded_ordered s law h wf).worsens

    pub backed : AllBacked s h (take 1024 (front ++ drop 1024 lent))
    backed = subst (AllBacked s h) (sym front_rows) (graded_done s law h wf).0.backed

    pub in_order : (count : ℕ) → count ≡ (all_turns s h).turn
        → InOrder s h (take 1024 (front ++ drop 1024 lent)) count
    in_order count e =
        let same : count ≡ (graded s h).turn = e ∙ turn_graded s law h wf in
        subst (λ (z : Rows G). InOrder s h z count) (sym front_rows)
        (subst (InOrder s h (graded s h).rows) (sym same) (graded_in_order s law h wf))

    pub alone : OnlyInOrder s h (take 1024 (front ++ drop 1024 lent))
    alone = subst (OnlyInOrder s h) (sym front_rows) (only_graded s law h wf)
