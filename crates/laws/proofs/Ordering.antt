-- The rows of a grading are in the order of settling, and no others are.
use Rattle.std.proofs.Common.{◌≡◌, ℕ, zero, suc, ◌<◌, ◌≤◌, get_or, Some, None, Option, sym, refl, ap, ◌∙◌, subst, inl, inr, arith}
use Rattle.std.proofs.lemmas.List.{ext_get_or}
use Rattle.std.proofs.lemmas.Bool.{cases_eq, cases_lt}
use Rattle.model.specs.declared.record.Record.{Record}
use Rattle.model.specs.declared.record.Record.TheVariants.{Root, Link, Ephemeron}
use Rattle.model.specs.declared.row.Offer.{Offer}
use Rattle.model.specs.declared.row.Row.{Row}
use Rattle.model.specs.Schemes.{Scheme, Lawful}
use Rattle.model.specs.Meaning.{Meaning, WellFormed, record_at}
use Rattle.model.specs.Settling.{Rows, State, target, given, filled, settle_by, step, settle, graded}
use Rattle.model.specs.Grading.{Settled, SettledBefore, SourcesBefore, Backed}
use Rattle.model.proofs.Filled.{none_some, some_same, in_filled}
use Rattle.model.proofs.Knuth.{Unsettled, next_offer, Sound, offer_here, target_filled}
use Rattle.model.proofs.Order.{First, first_both, best_before, best_first}
use Rattle.model.proofs.Steps.{Taken, taken, new_row, extends, by_row, step_sound, fresh, get_or-nones}
use Rattle.model.proofs.Steps.{fresh_sound, graded_done}
use Rattle.model.proofs.Turns.{graded_ordered}
use Rattle.laws.specs.Order.{Precedes, Unbeaten, InOrder, OnlyInOrder}

-- what is settled before turn t in the one table is so in the other
abbrev Carries : {G : Type 0} → ℕ → Rows G → Rows G → Type 0
Carries {G} t rows rows' = (c : ℕ) (row : Row G) → Settled rows c row → row.turn < t → Settled rows' c row

-- what holds of each source holds of all
each_source : {G : Type 0} (rows rows' : Rows G) (t t' : ℕ)
    → ((a : ℕ) → SettledBefore rows t a → SettledBefore rows' t' a)
    → (rec : Record) → SourcesBefore rows t rec → SourcesBefore rows' t' rec
each_source rows rows' t t' f (Root v) b = tt
each_source rows rows' t t' f (Link a v k) b = f a b
each_source rows rows' t t' f (Ephemeron a b v) q = (f a q.0, f b q.1)

module _ {G : Type 0} (s : Scheme G) (t : ℕ) (rows rows' : Rows G) (x : Carries t rows rows') where
  sources_carry : (rec : Record) → SourcesBefore rows t rec → SourcesBefore rows' t rec
  sources_carry = each_source rows rows' t t (λ a b. (b.0, x a b.0 b.1 b.2, b.2))

  -- so a record that was ready gives what it gave
  given_carry : (n r : ℕ) (rec : Record) → SourcesBefore rows t rec
      → given s rows n r rec ≡ given s rows' n r rec
  given_carry n r (Root v) b = refl
  given_carry n r (Link a v k) b = let e = b.1 in let f = x a b.0 b.1 b.2 in rw (e, f)
  given_carry n r (Ephemeron a b v) q =
      let e = q.0.1 in
      let f = x a q.0.0 q.0.1 q.0.2 in
      let i = q.1.1 in
      let j = x b q.1.0 q.1.1 q.1.2 in
      rw (e, f, i, j)

-- a ready record gives something
given_some : {G : Type 0} (s : Scheme G) (t : ℕ) (rows : Rows G) (n r : ℕ) (rec : Record)
    → SourcesBefore rows t rec → (g : G) × (given s rows n r rec ≡ Some g)
given_some s t rows n r (Root v) b = (s.start r n, refl)
given_some s t rows n r (Link a v k) b = let e = b.1 in (s.along r n b.0.grade k, rw e)
given_some s t rows n r (Ephemeron a b v) q =
    let e = q.0.1 in
    let f = q.1.1 in
    (s.join r n q.0.0.grade q.1.0.grade, rw (e, f))

module _ {G : Type 0} (s : Scheme G) (law : Lawful s) (h : Meaning) (wf : WellFormed h) where
  abbrev AllUnbeaten : Rows G → Type 0
  AllUnbeaten rows = (c : ℕ) (row : Row G) → Settled rows c row → Unbeaten s h rows c row

  module _ (st : State G) (sound : Sound s h st) (old : AllUnbeaten st.rows)
      (o : Offer G) (is_best : next_offer s h st ≡ Some o) where
    abbrev next : Rows G
    next = (settle_by st (Some o)).rows

    took : Taken s h st o
    took = taken s law h wf st sound o is_best

    by_new : (P : ℕ → Row G → Type 0) → P o.cell (new_row st o)
        → ((c : ℕ) (row : Row G) → Settled st.rows c row → P c row)
        → (c : ℕ) (row : Row G) → Settled next c row → P c row
    by_new P = by_row s law h wf st sound o took P

    -- the new row is the last, so what is settled before an earlier turn was there before
    back : (t : ℕ) → t ≤ st.turn → Carries t next st.rows
    back t l = by_new (λ c row. row.turn < t → Settled st.rows c row) (λ m. absurd (omega arith)) (λ c row e m. e)

    forth : (a : ℕ) (row : Row G) → Settled st.rows a row → Settled next a row
    forth = extends s law h wf st sound o took

    -- the offer that was taken was the first of all
    new_unbeaten : Unbeaten s h next o.cell (new_row st o)
    new_unbeaten r rec n g is-rec ready unmet is_size gives =
        let was = sources_carry s st.turn next st.rows (back st.turn (omega arith)) rec ready in
        let gave = sym (given_carry s st.turn next st.rows (back st.turn (omega arith)) n r rec ready) ∙ gives in
        let a = offer_here s h st.rows r rec n g (free (get_or st.rows (target rec) None) refl) is_size gave in
        let f = best_first s law h st.rows (filled h.records) (r, rec)
        (record { grade = g; cell = target rec; number = r }) o (in_filled h.records r rec is-rec) a is_best in
        (f.no_worse, f.ties)
      where
        free : (x : Option (Row G)) → get_or st.rows (target rec) None ≡ x → Unsettled st.rows (target rec)
        free None e = e
        free (Some row) e = absurd (unmet (row, forth (target rec) row e, sound.past (target rec) row e))

    old_unbeaten : (c : ℕ) (row : Row G) → Settled st.rows c row → Unbeaten s h next c row
    old_unbeaten c row e r rec n g is-rec ready unmet is_size gives =
        let t = row.turn in
        let l = sound.past c row e in
        let b = back t (omega arith) in
        old c row e r rec n g is-rec (sources_carry s t next st.rows b rec ready)
        (λ q. unmet (q.0, forth (target rec) q.0 q.1, q.2)) is_size
        (sym (given_carry s t next st.rows b n r rec ready) ∙ gives)

    pub next_unbeaten : AllUnbeaten next
    next_unbeaten = by_new (λ c row. Unbeaten s h next c row) new_unbeaten old_unbeaten

  step_unbeaten : (st : State G) → Sound s h st → AllUnbeaten st.rows
      → AllUnbeaten (step s h (filled h.records) st).rows
  step_unbeaten st sound old = go (next_offer s h st) refl
    where
      go : (x : Option (Offer G)) → next_offer s h st ≡ x
          → AllUnbeaten (settle_by st (next_offer s h st)).rows
      go None e = rw e old
      go (Some o) e = rw e (next_unbeaten st sound old o e)

  settle_unbeaten : (fuel : ℕ) (st : State G) → Sound s h st → AllUnbeaten st.rows
      → AllUnbeaten (settle s h (filled h.records) fuel st).rows
  unfolding settle
  settle_unbeaten zero st sound old = old
  settle_unbeaten (suc fuel) st sound old =
      settle_unbeaten fuel (step s h (filled h.records) st)
      (step_sound s law h wf st sound) (step_unbeaten st sound old)

  graded_unbeaten : AllUnbeaten (graded s h).rows
  unfolding graded
  graded_unbeaten =
      settle_unbeaten 1024 (fresh 1024) (fresh_sound s law h wf 1024 refl)
      (λ c row e. absurd (none_some (get_or-nones 1024 c) e))

  -- where no offer is left, every ready record reaches a settled cell
  graded_ended : (r : ℕ) (rec : Record) → record_at h r ≡ Some rec
      → SourcesBefore (graded s h).rows (graded s h).turn rec
      → SettledBefore (graded s h).rows (graded s h).turn (target rec)
  graded_ended r rec is-rec ready = go (get_or (graded s h).rows (target rec) None) refl
    where
      go : (x : Option (Row G)) → get_or (graded s h).rows (target rec) None ≡ x
          → SettledBefore (graded s h).rows (graded s h).turn (target rec)
      go (Some row) e = (row, e, (graded_ordered s law h wf).numbered.below (target rec) row e)
      go None e =
          let fill = target_filled s law h wf r rec is-rec in
          let g = given_some s (graded s h).turn (graded s h).rows fill.0 r rec ready in
          let a = offer_here s h (graded s h).rows r rec fill.0 g.0 e fill.1 g.1 in
          let b = best_before s law h (graded s h).rows (filled h.records) (r, rec)
          (record { grade = g.0; cell = target rec; number = r }) (in_filled h.records r rec is-rec) a in
          absurd (none_some (graded_done s law h wf).1 b.1)

  pub graded_in_order : InOrder s h (graded s h).rows (graded s h).turn
  graded_in_order = record {
    wide = (graded_done s law h wf).0.wide;
    numbered = (graded_ordered s law h wf).numbered;
    backed = (graded_done s law h wf).0.backed;
    unbeaten = graded_unbeaten;
    ended = graded_ended;
  }

-- two tables that are in order are the same: by turns, since the first of the candidates is one
module _ {G : Type 0} (s : Scheme G) (law : Lawful s) (h : Meaning) where
  module _ (a b : Rows G) (m n : ℕ) (p : InOrder s h a m) (q : InOrder s h b n) (t : ℕ)
      (ab : Carries t a b) (ba : Carries t b a) (c : ℕ) (row : Row G) (e : Settled a c row) (is : row.turn ≡ t) where
    -- what holds the cell in the one table is ready in the other, and the cell not yet settled
    held : Backed s h a c row
    held = p.backed c row e

    ready_a : SourcesBefore a t held.holding
    ready_a = subst (λ (u : ℕ). SourcesBefore a u held.holding) is held.earlier

    ready : SourcesBefore b t held.holding
    ready = sources_carry s t a b ab held.holding ready_a

    gives : given s b held.size row.holder held.holding ≡ Some row.grade
    gives = sym (given_carry s t a b ab held.size row.holder held.holding ready_a) ∙ held.gives

    unmet_yet : SettledBefore b t c → ⊥
    unmet_yet z =
        let same : z.0 ≡ row = some_same (ba c z.0 z.1 z.2) e in
        let u : z.0.turn ≡ row.turn = ap (λ (w : Row G). w.turn) same in
        omega (arith, z.2)

    -- so the other table has not ended
    not_ended : t < n
    not_ended = elim (cases_lt t n) [ inl l ↦ l | inr l ↦ absurd (too_late l) ]
      where
        too_late : n ≤ t → ⊥
        too_late l =
            let all = each_source b b t n (λ d z. (z.0, z.1, q.numbered.below d z.0 z.1))
            held.holding ready in
            let z = q.ended row.holder held.holding held.is_record all in
            unmet_yet (z.0, rw held.reaches at z.1, omega (arith, z.2))

    -- and the cell that it settles in this turn is taken no later
    no_later : (d : ℕ) (y : Row G) → Settled b d y → y.turn ≡ t
        → First s (record { grade = y.grade; cell = d; number = y.holder })
        (record { grade = row.grade; cell = c; number = row.holder })
    no_later d y f u =
        let w = q.unbeaten d y f row.holder held.holding held.size row.grade held.is_record
        (rw u ready) (λ z. unmet_yet (rw (u, held.reaches) at z)) (rw held.reaches held.is_size) gives in
        let v : Precedes s y.grade d y.holder row.grade c row.holder = rw held.reaches at w in
        record { no_worse = v.0; ties = v.1 }

  -- tables that agree before a turn agree at it
  at_turn : (a b : Rows G) (m n : ℕ) → InOrder s h a m → InOrder s h b n → (t : ℕ)
      → Carries t a b → Carries t b a → (c : ℕ) (row : Row G) → Settled a c row → row.turn ≡ t
      → Settled b c row
  at_turn a b m n p q t ab ba c row e is =
      let w = q.numbered.every t (not_ended a b m n p q t ab ba c row e is) in
      let there = no_later a b m n p q t ab ba c row e is w.0 w.1 w.2 w.3 in
      let back = no_later b a n m q p t ba ab w.0 w.1 w.2 w.3 c row e is in
      let same = first_both s law _ _ there back in
      let cell : w.0 ≡ c = ap (λ (o : Offer G). o.cell) same in
      let grade : w.1.grade ≡ row.grade = ap (λ (o : Offer G). o.grade) same in
      let number : w.1.holder ≡ row.holder = ap (λ (o : Offer G). o.number) same in
      let turn : w.1.turn ≡ row.turn = w.3 ∙ sym is in
      let rows : w.1 ≡ row = λ i. record { grade = grade i; holder = number i; turn = turn i } in
      ap (λ (k : ℕ). get_or b k None) (sym cell) ∙ (w.2 ∙ ap {B = Option (Row G)} Some rows)

  agree : (a b : Rows G) (m n : ℕ) → InOrder s h a m → InOrder s h b n → (t : ℕ)
      → Carries t a b × Carries t b a
  agree a b m n p q zero = (λ c row e l. absurd (omega arith), λ c row e l. absurd (omega arith))
  agree a b m n p q (suc t) = let w = agree a b m n p q t in (
    on a b m n p q t w.0 w.1,
    on b a n m q p t w.1 w.0,
  )
    where
      on : (a b : Rows G) (m n : ℕ) → InOrder s h a m → InOrder s h b n → (t : ℕ)
          → Carries t a b → Carries t b a → Carries (suc t) a b
      on a b m n p q t ab ba c row e l = elim (cases_eq row.turn t) [
        | inl is ↦ at_turn a b m n p q t ab ba c row e is
        | inr is ↦ ab c row e (omega arith)
      ]

  -- so a settled row of the one is one of the other
  pub in_order_once : (a b : Rows G) (m n : ℕ) → InOrder s h a m → InOrder s h b n
      → (c : ℕ) (row : Row G) → Settled a c row → Settled b c row
  in_order_once a b m n p q c row e =
      (agree a b m n p q m).0 c row e (p.numbered.below c row e)

-- so no table but that of the settling rule is in order
module _ {G : Type 0} (s : Scheme G) (law : Lawful s) (h : Meaning) (wf : WellFormed h) where
  pub only_graded : OnlyInOrder s h (graded s h).rows
  only_graded rows n p =
      let q = graded_in_order s law h wf in
      ext_get_or None rows (graded s h).rows (p.wide ∙ sym q.wide)
      (λ i l. same p q i (get_or rows i None) (get_or (graded s h).rows i None) refl refl)
    where
      same : InOrder s h rows n → InOrder s h (graded s h).rows (graded s h).turn → (i : ℕ)
          → (x y : Option (Row G)) → get_or rows i None ≡ x → get_or (graded s h).rows i None ≡ y
          → get_or rows i None ≡ get_or (graded s h).rows i None
      same p q i (Some x) y e f = e ∙ sym (in_order_once s law h rows (graded s h).rows n _ p q i x e)
      same p q i None (Some y) e f =
          absurd (none_some e (in_order_once s law h (graded s h).rows rows _ n q p i y f))
      same p q i None None e f = e ∙ sym f
