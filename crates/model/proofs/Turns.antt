-- The order in which cells are settled: turns number them from 0 up, and grades never get better.
use Rattle.std.proofs.Common.{◌≡◌, ℕ, zero, suc, ◌<◌, get_or, Some, None, Option, sym, refl, subst, inl, inr, arith}
use Rattle.std.proofs.lemmas.Bool.{cases_eq}
use Rattle.model.specs.declared.row.Offer.{Offer}
use Rattle.model.specs.declared.row.Row.{Row}
use Rattle.model.specs.Schemes.{Scheme, Lawful, NoWorse}
use Rattle.model.specs.Meaning.{Meaning, WellFormed}
use Rattle.model.specs.Derivations.{Derivation, grade_of}
use Rattle.model.specs.Settling.{Rows, State, filled, settle_by, step, settle, graded}
use Rattle.model.specs.Grading.{Settled, Numbered, Worsens}
use Rattle.model.proofs.Filled.{none_some}
use Rattle.model.proofs.Knuth.{Unsettled, next_offer, Sound}
use Rattle.model.proofs.Steps.{Taken, taken, next_no_worse, new_row, at_new, extends, by_row}
use Rattle.model.proofs.Steps.{settled_sound, step_sound, fresh, get_or-nones, fresh_sound}

-- what holds of the turns and the grades at each step; no settled cell has a worse grade than a
-- derivation of an unsettled one
pub record Ordered {G : Type 0} (s : Scheme G) (h : Meaning) (st : State G) : Type 0 where
  pub numbered : Numbered st.rows st.turn
  pub worsens : Worsens s st.rows
  pub no_better_left : (a : ℕ) (x : Row G) → Settled st.rows a x → {c : ℕ} (d : Derivation h c)
      → Unsettled st.rows c → NoWorse s x.grade (grade_of s d)

module _ {G : Type 0} (s : Scheme G) (law : Lawful s) (h : Meaning) (wf : WellFormed h) where
  module _ (st : State G) (sound : Sound s h st) (old : Ordered s h st)
      (o : Offer G) (is_best : next_offer s h st ≡ Some o) where
    -- the rows after the step that takes the offer
    abbrev next : Rows G
    next = (settle_by st (Some o)).rows

    took : Taken s h st o
    took = taken s law h wf st sound o is_best

    -- a row of them is the new one or an old one
    by_new : (P : ℕ → Row G → Type 0) → P o.cell (new_row st o)
        → ((c : ℕ) (row : Row G) → Settled st.rows c row → P c row)
        → (c : ℕ) (row : Row G) → Settled next c row → P c row
    by_new P = by_row s law h wf st sound o took P

    -- the new turn is later than any before
    later : (c : ℕ) (row : Row G) → Settled st.rows c row → row.turn < st.turn
    later = sound.past

    -- no turn is given twice: the row of the one cell is new or old, and so is that of the other
    apart_new : (d : ℕ) (other : Row G) → Settled next d other → st.turn ≡ other.turn → o.cell ≡ d
    apart_new =
        by_new (λ d other. st.turn ≡ other.turn → o.cell ≡ d)
        (λ _. refl) (λ d other u f. absurd (omega (arith, later d other u)))

    apart_old : (c : ℕ) (row : Row G) → Settled st.rows c row
        → (d : ℕ) (other : Row G) → Settled next d other → row.turn ≡ other.turn → c ≡ d
    apart_old c row u =
        by_new (λ d other. row.turn ≡ other.turn → c ≡ d)
        (λ f. absurd (omega (arith, later c row u))) (λ d other v. old.numbered.apart c d row other u v)

    apart' : (a b : ℕ) (x y : Row G) → Settled next a x → Settled next b y → x.turn ≡ y.turn → a ≡ b
    apart' a b x y p q =
        by_new (λ c row. (d : ℕ) (other : Row G) → Settled next d other → row.turn ≡ other.turn → c ≡ d)
        apart_new apart_old a x p b y q

    -- no turn is left out
    every' : (t : ℕ) → t < suc st.turn → (c : ℕ) × (row : Row G) × Settled next c row × (row.turn ≡ t)
    every' t l = elim (cases_eq t st.turn) [
      | inl e ↦ (o.cell, new_row st o, at_new s law h wf st sound o took, sym e)
      | inr e ↦ (
          let q = old.numbered.every t (omega arith) in
          (q.0, q.1, extends s law h wf st sound o took q.0 q.1 q.2, q.3))
    ]

    -- a cell that stays unsettled was unsettled: its derivations have no better grade than the
    -- old rows, and no better one than the offer
    was_unsettled : (c : ℕ) → Unsettled next c → Unsettled st.rows c
    was_unsettled c u = go (get_or st.rows c None) refl
      where
        go : (x : Option (Row G)) → get_or st.rows c None ≡ x → Unsettled st.rows c
        go None e = e
        go (Some row) e = absurd (none_some u (extends s law h wf st sound o took c row e))

    no_better_left' : (a : ℕ) (x : Row G) → Settled next a x → {c : ℕ} (d : Derivation h c)
        → Unsettled next c → NoWorse s x.grade (grade_of s d)
    no_better_left' a x p {c} d u =
        by_new (λ _ row. NoWorse s row.grade (grade_of s d))
        (next_no_worse s law h wf st sound o is_best d (was_unsettled c u))
        (λ b row e. old.no_better_left b row e d (was_unsettled c u))
        a x p

    -- an old row is no worse than the new one, since its grade is no worse than any that was left
    worsens_new : (d : ℕ) (other : Row G) → Settled next d other
        → st.turn < other.turn → NoWorse s o.grade other.grade
    worsens_new =
        by_new (λ _ other. st.turn < other.turn → NoWorse s o.grade other.grade)
        (λ f. absurd (omega arith)) (λ d other u f. absurd (omega (arith, later d other u)))

    worsens_old : (c : ℕ) (row : Row G) → Settled st.rows c row
        → (d : ℕ) (other : Row G) → Settled next d other
        → row.turn < other.turn → NoWorse s row.grade other.grade
    worsens_old c row u =
        let by = took.is_best in
        let left = old.no_better_left c row u by.witness took.free in
        by_new (λ _ other. row.turn < other.turn → NoWorse s row.grade other.grade)
        (λ _. subst (NoWorse s row.grade) by.exact left)
        (λ d other v. old.worsens c d row other u v)

    worsens' : Worsens s next
    worsens' a b x y p q =
        by_new (λ _ row. (d : ℕ) (other : Row G) → Settled next d other
        → row.turn < other.turn → NoWorse s row.grade other.grade)
        worsens_new worsens_old a x p b y q

    -- so the step keeps the order
    settled_ordered : Ordered s h (settle_by st (Some o))
    settled_ordered = record {
      numbered = record {
        below = (settled_sound s law h wf st sound o took).past;
        apart = apart';
        every = every';
      };
      worsens = worsens';
      no_better_left = no_better_left';
    }

  step_ordered : (st : State G) → Sound s h st → Ordered s h st
      → Ordered s h (step s h (filled h.records) st)
  step_ordered st sound old = go (next_offer s h st) refl
    where
      go : (x : Option (Offer G)) → next_offer s h st ≡ x → Ordered s h (settle_by st (next_offer s h st))
      go None e = rw e old
      go (Some o) e = rw e (settled_ordered st sound old o e)

  settle_ordered : (fuel : ℕ) (st : State G) → Sound s h st → Ordered s h st
      → Ordered s h (settle s h (filled h.records) fuel st)
  unfolding settle
  settle_ordered zero st sound old = old
  settle_ordered (suc fuel) st sound old =
      settle_ordered fuel (step s h (filled h.records) st)
      (step_sound s law h wf st sound) (step_ordered st sound old)

  -- at first no cell is settled
  fresh_ordered : (n : ℕ) → Ordered s h (fresh n)
  fresh_ordered n = record {
    numbered = record {
      below = λ c row p. absurd (none_some (get_or-nones n c) p);
      apart = λ a b x y p. absurd (none_some (get_or-nones n a) p);
      every = λ t l. absurd (omega arith);
    };
    worsens = λ a b x y p. absurd (none_some (get_or-nones n a) p);
    no_better_left = λ a x p. absurd (none_some (get_or-nones n a) p);
  }

  pub graded_ordered : Ordered s h (graded s h)
  unfolding graded
  graded_ordered =
      settle_ordered 1024 (fresh 1024) (fresh_sound s law h wf 1024 refl) (fresh_ordered 1024)
