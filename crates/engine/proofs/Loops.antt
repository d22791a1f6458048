-- What one turn of each loop does, and what is left when it ends.
use Rattle.std.proofs.Common.{◌≡◌, ℕ, zero, suc, ◌+◌, ◌-◌, ◌<◌, ◌≤◌, Bool, true, false, cond, [], ◌∷◌, length, get_or, drop, replicate, Some, None, Option, sym, refl, ap, ◌∙◌, ap₂, arith}
use mir.Val.{bool_byte}
use Rattle.std.proofs.lemmas.List.{at_drop_more, at_drop_all}
use Rattle.model.specs.declared.row.Offer.{Offer}
use Rattle.model.specs.Schemes.{Scheme}
use Rattle.model.specs.Meaning.{Meaning, record_at}
use Rattle.model.specs.Settling.{Rows}
use Rattle.model.proofs.Filled.{none_some}
use Rattle.offers.specs.Offers.{settled_row}
use Rattle.engine.specs.Working.{settled_rows, visit, visited, pass, tally, chosen, seal, Work, turned, turn_count, round_by, round_at, round, run, start}

-- a row of the settled ones
pub settled_at : {G : Type 0} (rows : Rows G) (i : ℕ)
    → get_or (settled_rows rows) i None ≡ settled_row (get_or rows i None)
settled_at [] i = refl
settled_at (x ∷ xs) zero = refl
settled_at (x ∷ xs) (suc i) = settled_at xs i

-- a count that goes up where a test holds
pub count_up : (b : Bool) (n m : ℕ) → m ≡ bool_byte b → n + m ≡ n + cond b 1 0
count_up true n m e = ap (λ (k : ℕ). n + k) e
count_up false n m e = ap (λ (k : ℕ). n + k) e

pub up_to_one : (b : Bool) (n m : ℕ) → m ≡ n + cond b 1 0 → m ≤ n + 1
up_to_one true n m e = omega arith
up_to_one false n m e = omega arith

module _ {G : Type 0} (s : Scheme G) where
  module _ (h : Meaning) where
    module _ (just : Option ℕ) where
      -- the rows after the records from i on, and the count of those that were ready
      abbrev pub rows_from : ℕ → Rows G → Rows G
      rows_from i rows = pass s h just i (drop i h.records) rows

      abbrev pub count_from : ℕ → Rows G → ℕ
      count_from i rows = tally s h just i (drop i h.records) rows

      abbrev pub after_visit : ℕ → Rows G → Rows G
      after_visit i rows = visit s h just i (record_at h i) rows

      abbrev pub was_ready : ℕ → Rows G → Bool
      was_ready i rows = visited s h just i (record_at h i) rows

      -- passing over the records
      pub pass_more : (rows : Rows G) (i : ℕ) → i < length h.records
          → rows_from i rows ≡ rows_from (i + 1) (after_visit i rows)
      unfolding pass
      pass_more rows i l = at_drop_more (λ xs. pass s h just i xs rows) h.records i None l

      pub pass_all : (rows : Rows G) (i : ℕ) → length h.records ≤ i → rows_from i rows ≡ rows
      unfolding pass
      pass_all rows i l = at_drop_all (λ xs. pass s h just i xs rows) h.records i l

      pub tally_more : (rows : Rows G) (i : ℕ) → i < length h.records
          → count_from i rows ≡ cond (was_ready i rows) 1 0 + count_from (i + 1) (after_visit i rows)
      unfolding tally
      tally_more rows i l = at_drop_more (λ xs. tally s h just i xs rows) h.records i None l

      pub tally_all : (rows : Rows G) (i : ℕ) → length h.records ≤ i → count_from i rows ≡ 0
      unfolding tally
      tally_all rows i l = at_drop_all (λ xs. tally s h just i xs rows) h.records i l

      pub tally_turn : (rows rows' : Rows G) (i n m t : ℕ) (b : Bool) → i < length h.records
          → rows' ≡ after_visit i rows → b ≡ was_ready i rows → m ≡ n + cond b 1 0
          → n + count_from i rows ≡ t → m + count_from (i + 1) rows' ≡ t
      tally_turn rows rows' i n m t b l e f k q =
          let k' : m ≡ n + cond (was_ready i rows) 1 0 = k ∙ ap (λ (z : Bool). n + cond z 1 0) f in
          rw e (omega (arith, tally_more rows i l))

    -- taking turns
    pub start_run : (fuel n k : ℕ) (rows₀ rows : Rows G) → rows₀ ≡ replicate n None
        → rows ≡ pass s h None 0 h.records rows₀ → k ≡ tally s h None 0 h.records rows₀
        → run s h fuel (record { rows = rows; turn = 0; count = k }) ≡ run s h fuel (start s h n)
    start_run fuel n k rows₀ rows z e f =
        let e' : rows ≡ pass s h None 0 h.records (replicate n None) =
        e ∙ ap (pass s h None 0 h.records) z in
        let f' : k ≡ tally s h None 0 h.records (replicate n None) =
        f ∙ ap (tally s h None 0 h.records) z in
        λ i. run s h fuel (record { rows = e' i; turn = 0; count = f' i })

    -- one turn, with an offer and without
    pub turn_took : (rows rows₁ rows₂ : Rows G) (t k : ℕ) (o : Offer G) (x : Option (Offer G)) → Some o ≡ x
        → rows₁ ≡ seal o t rows → rows₂ ≡ pass s h (Some o.cell) 0 h.records rows₁
        → k ≡ tally s h (Some o.cell) 0 h.records rows₁
        → (rows₂ ≡ turned s h t rows x) × (Some k ≡ turn_count s h t rows x)
    turn_took rows rows₁ rows₂ t k o x e f p q = (
      p ∙ ap (pass s h (Some o.cell) 0 h.records) f ∙ ap (turned s h t rows) e,
      ap {B = Option ℕ} Some (q ∙ ap (tally s h (Some o.cell) 0 h.records) f)
          ∙ ap (turn_count s h t rows) e,
    )

    pub turn_idle : (rows : Rows G) (t : ℕ) (y : Option ℕ) (x : Option (Offer G)) → None ≡ x → y ≡ None
        → (rows ≡ turned s h t rows x) × (y ≡ turn_count s h t rows x)
    turn_idle rows t y x e f = (ap (turned s h t rows) e, f ∙ ap (turn_count s h t rows) e)

    run_suc : (m fuel : ℕ) (w : Work G) → m ≡ suc fuel → run s h m w ≡ run s h fuel (round s h w)
    unfolding run
    run_suc m fuel w e = rw e

    pub turn_run : (rows rows' : Rows G) (t n k m : ℕ) (y : Option ℕ) (x : Work G) → t < m
        → rows' ≡ turned s h t rows (chosen s rows) → y ≡ turn_count s h t rows (chosen s rows) → y ≡ Some k
        → run s h (m - t) (record { rows = rows; turn = t; count = n }) ≡ x
        → run s h (m - (t + 1)) (record { rows = rows'; turn = t + 1; count = n + k }) ≡ x
    turn_run rows rows' t n k m y x l e f d q =
        let w : Work G = record { rows = rows; turn = t; count = n } in
        let r : round s h w ≡ round_by w rows' (Some k) =
        ap₂ (λ (y : Rows G) (z : Option ℕ). round_by w y z) (sym e) (sym f ∙ d) in
        ap (run s h (m - (t + 1))) (sym r) ∙ sym (run_suc (m - t) (m - (t + 1)) w (omega arith)) ∙ q

    run_still : (fuel : ℕ) (w : Work G) → chosen s w.rows ≡ None → run s h fuel w ≡ w
    unfolding run
    run_still zero w e = refl
    run_still (suc fuel) w e = ap (run s h fuel) (ap (round_at s h w) e) ∙ run_still fuel w e

    stopped : (rows : Rows G) (t : ℕ) (x : Option (Offer G)) → turn_count s h t rows x ≡ None → x ≡ None
    stopped rows t None e = refl
    stopped rows t (Some o) e = absurd (none_some e refl)

    pub turn_stop : (rows rows' : Rows G) (t n fuel : ℕ) (y : Option ℕ) (x : Work G)
        → rows' ≡ turned s h t rows (chosen s rows) → y ≡ turn_count s h t rows (chosen s rows) → y ≡ None
        → run s h fuel (record { rows = rows; turn = t; count = n }) ≡ x
        → (rows' ≡ x.rows) × (t ≡ x.turn) × (n ≡ x.count)
    turn_stop rows rows' t n fuel y x e f d q =
        let z = stopped rows t (chosen s rows) (sym f ∙ d) in
        let a : rows' ≡ rows = e ∙ ap (turned s h t rows) z in
        let b = sym (run_still fuel (record { rows = rows; turn = t; count = n }) z) ∙ q in
        (a ∙ ap (λ (w : Work G). w.rows) b, ap (λ (w : Work G). w.turn) b, ap (λ (w : Work G). w.count) b)

    pub run_none : (m t : ℕ) (w x : Work G) → m ≤ t → run s h (m - t) w ≡ x → w ≡ x
    unfolding run
    run_none m t w x l q = let e : m - t ≡ 0 = omega arith in rw e at q
