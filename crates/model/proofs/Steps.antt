-- Each step keeps the rows sound, and after 1,024 of them no offer is left.
use Rattle.std.proofs.Common.{◌≡◌, ℕ, zero, suc, ◌<◌, ◌≤◌, ◌⊎◌, [], ◌∷◌, length, get_or, set, replicate, Some, None, Option, sym, refl, ap, ◌∙◌, subst, inl, inr, arith, length-set, get_or-set_other, get_or-set_same}
use lib.ListN.{length-replicate}
use Rattle.std.proofs.lemmas.Bool.{cases_eq}
use Rattle.model.specs.declared.record.Record.{Record}
use Rattle.model.specs.declared.row.Offer.{Offer}
use Rattle.model.specs.declared.row.Row.{Row}
use Rattle.model.specs.Schemes.{Scheme, Lawful, NoWorse}
use Rattle.model.specs.Meaning.{Meaning, WellFormed, cell_at, record_at}
use Rattle.model.specs.Derivations.{Derivation, grade_of, Best}
use Rattle.model.specs.Settling.{Rows, State, target, given, filled, offer, settle_by, step, settle, graded}
use Rattle.model.specs.Grading.{Settled, Backed}
use Rattle.model.proofs.Formed.{cell_below}
use Rattle.model.proofs.Filled.{none_some, some_same, from_filled}
use Rattle.model.proofs.Choice.{best_sound}
use Rattle.model.proofs.Knuth.{Unsettled, next_offer, Sound, Extends, backed_extends, offer_parts}
use Rattle.model.proofs.Knuth.{target_filled, unsettled_beaten, derived}

-- the row of the cell that the offer settles
abbrev pub new_row : {G : Type 0} → State G → Offer G → Row G
new_row st o = record { grade = o.grade; holder = o.number; turn = st.turn }

-- what is known of the offer that a step takes: its record holds its unsettled cell with the
-- grade of a best derivation
pub record Taken {G : Type 0} (s : Scheme G) (h : Meaning) (st : State G) (o : Offer G) : Type 0 where
  pub backed : Backed s h st.rows o.cell (new_row st o)
  pub free : Unsettled st.rows o.cell
  pub below : o.cell < 1024
  pub is_best : Best s h o.cell o.grade

module _ {G : Type 0} (s : Scheme G) (law : Lawful s) (h : Meaning) (wf : WellFormed h)
    (st : State G) (sound : Sound s h st) where
  -- the next offer is no worse than any derivation of an unsettled cell
  pub next_no_worse : (o : Offer G) → next_offer s h st ≡ Some o
      → {c : ℕ} (d : Derivation h c) → Unsettled st.rows c → NoWorse s o.grade (grade_of s d)
  next_no_worse o e d u =
      let b = unsettled_beaten s law h wf st sound d u in
      subst (λ (z : Offer G). NoWorse s z.grade (grade_of s d)) (some_same b.1 e) b.2

  -- the record and the size are variables here, which `rw` can replace
  taken_from : (o : Offer G) (r n : ℕ) (rec : Record) → next_offer s h st ≡ Some o
      → record_at h r ≡ Some rec → cell_at h (target rec) ≡ Some n
      → offer s h st.rows r rec ≡ Some o → Taken s h st o
  taken_from o r n rec e is-rec fill w =
      let q = offer_parts s h st.rows r rec o w in
      let gives : given s st.rows n r rec ≡ Some o.grade = rw fill at q.3 in
      let d = derived s law h wf st sound r n rec o.grade is-rec fill gives in
      let here-best : Best s h (target rec) o.grade = record {
        witness = d.0;
        exact = d.1;
        no_worse = λ k. next_no_worse o e k q.0;
      } in
      record {
        backed = record {
          holding = rec;
          size = n;
          is_record = rw q.2 is-rec;
          reaches = sym q.1;
          is_size = rw q.1 fill;
          gives = rw q.2 gives;
          earlier = d.2;
        };
        free = rw q.1 q.0;
        below = rw q.1 (cell_below h wf (target rec) n fill);
        is_best = subst (λ (c : ℕ). Best s h c o.grade) (sym q.1) here-best;
      }

  pub taken : (o : Offer G) → next_offer s h st ≡ Some o → Taken s h st o
  taken o e =
      let p = best_sound s law h st.rows (filled h.records) o e in
      let is-rec = from_filled h.records p.0 p.1 in
      let fill = target_filled s law h wf p.0.0 p.0.1 is-rec in
      taken_from o p.0.0 fill.0 p.0.1 e is-rec fill.1 p.2

  module _ (o : Offer G) (t : Taken s h st o) where
    -- the rows after the step: the new row is there, and those before it stay
    abbrev rows' : Rows G
    rows' = (settle_by st (Some o)).rows

    pub at_new : Settled rows' o.cell (new_row st o)
    at_new = get_or-set_same st.rows o.cell (Some (new_row st o)) None (rw sound.wide t.below)

    at_other : (c : ℕ) → (c ≡ o.cell → ⊥) → get_or rows' c None ≡ get_or st.rows c None
    at_other c p = get_or-set_other st.rows o.cell c (Some (new_row st o)) None p

    pub extends : Extends st.rows rows'
    extends a row e = at_other a (λ p. none_some t.free (rw p at e)) ∙ e

    -- what holds of the new row and of those before it holds of each
    pub by_row : (P : ℕ → Row G → Type 0) → P o.cell (new_row st o)
        → ((c : ℕ) (row : Row G) → Settled st.rows c row → P c row)
        → (c : ℕ) (row : Row G) → Settled rows' c row → P c row
    by_row P new old c row e = elim (cases_eq c o.cell) [
      | inl p ↦ (let q : new_row st o ≡ row = some_same at_new (rw p at e) in rw (p, ← q) new)
      | inr p ↦ old c row (sym (at_other c p) ∙ e)
    ]

    -- so the step keeps the rows sound
    pub settled_sound : Sound s h (settle_by st (Some o))
    settled_sound = record {
      wide = length-set st.rows o.cell (Some (new_row st o)) ∙ sound.wide;
      past =
          by_row (λ c row. row.turn < suc st.turn) (omega arith)
          (λ c row e. let l = sound.past c row e in omega arith);
      backed =
          by_row (Backed s h rows') (still o.cell (new_row st o) t.backed)
          (λ c row e. still c row (sound.backed c row e));
      settled_best = by_row (λ c row. Best s h c row.grade) t.is_best sound.settled_best;
    }
      where
        still : (c : ℕ) (row : Row G) → Backed s h st.rows c row → Backed s h rows' c row
        still = backed_extends s h st.rows rows' extends

  pub step_sound : Sound s h (step s h (filled h.records) st)
  step_sound = go (next_offer s h st) refl
    where
      go : (x : Option (Offer G)) → next_offer s h st ≡ x → Sound s h (settle_by st (next_offer s h st))
      go None e = rw e sound
      go (Some o) e = rw e (settled_sound o (taken o e))

-- how many cells are unsettled: one less after each offer that is taken
abbrev nones : {G : Type 0} → Rows G → ℕ
nones [] = 0
nones (None ∷ xs) = suc (nones xs)
nones (Some x ∷ xs) = nones xs

nones_set : {G : Type 0} (rows : Rows G) (c : ℕ) (row : Row G) → c < length rows → Unsettled rows c
    → nones rows ≡ suc (nones (set rows c (Some row)))
nones_set [] c row l e = absurd (omega arith)
nones_set (None ∷ xs) zero row l e = refl
nones_set (Some x ∷ xs) zero row l e = absurd (none_some e refl)
nones_set (None ∷ xs) (suc c) row l e = ap suc (nones_set xs c row (omega arith) e)
nones_set (Some x ∷ xs) (suc c) row l e = nones_set xs c row (omega arith) e

-- at first no cell is settled
abbrev pub fresh : {G : Type 0} → ℕ → State G
fresh n = record { rows = replicate n None; turn = 0 }

nones_replicate : (G : Type 0) (n : ℕ) → nones {G = G} (replicate n None) ≡ n
nones_replicate G zero = refl
nones_replicate G (suc n) = ap suc (nones_replicate G n)

pub get_or-nones : {G : Type 0} (n c : ℕ) → get_or {A = Option (Row G)} (replicate n None) c None ≡ None
get_or-nones zero c = refl
get_or-nones (suc n) zero = refl
get_or-nones (suc n) (suc c) = get_or-nones n c

module _ {G : Type 0} (s : Scheme G) (law : Lawful s) (h : Meaning) (wf : WellFormed h) where
  pub fresh_sound : (n : ℕ) → n ≡ 1024 → Sound s h (fresh n)
  fresh_sound n w = record {
    wide = length-replicate n None ∙ w;
    past = λ c row e. absurd (none_some (get_or-nones n c) e);
    backed = λ c row e. absurd (none_some (get_or-nones n c) e);
    settled_best = λ c row e. absurd (none_some (get_or-nones n c) e);
  }

  -- no offer is left, or the steps are enough for the cells that are unsettled
  abbrev Enough : State G → ℕ → Type 0
  Enough st fuel = (next_offer s h st ≡ None) ⊎ (nones st.rows ≤ fuel)

  offer_shrinks : (st : State G) (sound : Sound s h st) (o : Offer G) → next_offer s h st ≡ Some o
      → nones st.rows ≡ suc (nones (settle_by st (Some o)).rows)
  offer_shrinks st sound o e =
      let t = taken s law h wf st sound o e in
      nones_set st.rows o.cell (new_row st o) (rw sound.wide t.below) t.free

  enough_step : (st : State G) (fuel : ℕ) → Sound s h st → Enough st (suc fuel)
      → Enough (step s h (filled h.records) st) fuel
  enough_step st fuel sound m = go (next_offer s h st) refl
    where
      go : (x : Option (Offer G)) → next_offer s h st ≡ x → Enough (settle_by st (next_offer s h st)) fuel
      go None e = inl (rw e e)
      go (Some o) e = elim m [
        | inl f ↦ absurd (none_some f e)
        | inr f ↦ inr (rw e (omega (arith, offer_shrinks st sound o e)))
      ]

  enough_zero : (st : State G) → Sound s h st → Enough st 0 → next_offer s h st ≡ None
  enough_zero st sound m = go (next_offer s h st) refl
    where
      go : (x : Option (Offer G)) → next_offer s h st ≡ x → next_offer s h st ≡ None
      go None e = e
      go (Some o) e = elim m [
        | inl f ↦ f
        | inr f ↦ absurd (omega (arith, offer_shrinks st sound o e))
      ]

  -- after enough steps the rows are sound and no offer is left
  abbrev Done : State G → Type 0
  Done st = Sound s h st × (next_offer s h st ≡ None)

  settle_done : (fuel : ℕ) (st : State G) → Sound s h st → Enough st fuel
      → Done (settle s h (filled h.records) fuel st)
  unfolding settle
  settle_done zero st sound m = (sound, enough_zero st sound m)
  settle_done (suc fuel) st sound m =
      settle_done fuel (step s h (filled h.records) st)
      (step_sound s law h wf st sound) (enough_step st fuel sound m)

  pub graded_done : Done (graded s h)
  unfolding graded
  graded_done =
      settle_done 1024 (fresh 1024) (fresh_sound 1024 refl)
      (inr (omega (arith, nones_replicate G 1024)))
