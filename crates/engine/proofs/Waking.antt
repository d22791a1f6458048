-- The records that a cell wakes are those of its chain: a pass leaves out the others.
use Rattle.std.proofs.Common.{◌≡◌, ℕ, zero, suc, ◌+◌, ◌-◌, ◌*◌, ◌/◌, ◌%◌, ◌<◌, ◌≤◌, Bool, true, false, cond, eqb, length, Some, None, Option, sym, refl, ap, ◌∙◌, ap₂, inl, inr, arith}
use Rattle.std.proofs.lemmas.Bool.{cases_eq, both_ways, eqb-true, eqb-false, ne_eqb, or_from}
use Rattle.model.specs.declared.record.Record.{Record}
use Rattle.model.specs.declared.record.Record.TheVariants.{Root, Link, Ephemeron}
use Rattle.model.specs.Schemes.{Scheme}
use Rattle.model.specs.Meaning.{Meaning, record_at}
use Rattle.model.specs.Settling.{Rows}
use Rattle.chains.specs.Places.{first_source, second_source, belongs}
use Rattle.chains.proofs.Seeking.{owned, Found}
use Rattle.chains.proofs.Linking.{at_first, at_second}
use Rattle.engine.specs.Working.{wakes, visit, visited}
use Rattle.engine.proofs.Loops.{rows_from, count_from, after_visit, pass_more, tally_more}

-- the cell c wakes what stands at a record's number
abbrev woken : ℕ → Option Record → Bool
woken c None = false
woken c (Some rec) = wakes (Some c) rec

-- a record with no place of the cell is not woken, and none has two
module _ (c : ℕ) where
  key_asleep : (a b : ℕ) → eqb a c ≡ false → belongs (cond (eqb b a) None (Some b)) c ≡ false → eqb b c ≡ false
  key_asleep a b e f = go (eqb b a) refl f
    where
      go : (t : Bool) → eqb b a ≡ t → belongs (cond t None (Some b)) c ≡ false → eqb b c ≡ false
      go true x f = let y : b ≡ a = eqb-true b a x in ap (λ (n : ℕ). eqb n c) y ∙ e
      go false x f = f

  asleep : (x : Option Record) → belongs (first_source x) c ≡ false → belongs (second_source x) c ≡ false
      → woken c x ≡ false
  asleep None e f = refl
  asleep (Some (Root t)) e f = refl
  asleep (Some (Link a t k)) e f = e
  asleep (Some (Ephemeron a b v)) e f = or_from (eqb a c) (eqb b c) e (key_asleep a b e f)

  one_place : (x : Option Record) → belongs (first_source x) c ≡ true → belongs (second_source x) c ≡ false
  one_place None e = refl
  one_place (Some (Root t)) e = refl
  one_place (Some (Link a t k)) e = refl
  one_place (Some (Ephemeron a b v)) e = go (eqb b a) refl
    where
      go : (t : Bool) → eqb b a ≡ t → belongs (cond t None (Some b)) c ≡ false
      go true x = refl
      go false x = ne_eqb b c (λ y. eqb-false b a x (y ∙ sym (eqb-true a c e)))

module _ (h : Meaning) (c : ℕ) where
  -- where a chain goes on at q, no record from place p up to there is woken
  asleep_before : (p q : ℕ) → Found h c p 8192 q → (r : ℕ) → p ≤ 2 * r → 2 * r + 1 < q
      → woken c (record_at h r) ≡ false
  asleep_before p q f r l m =
      asleep c (record_at h r)
      (ap (λ (x : Option ℕ). belongs x c) (at_first h r) ∙ f.none (2 * r) l (omega arith))
      (ap (λ (x : Option ℕ). belongs x c) (at_second h r) ∙ f.none (2 * r + 1) (omega arith) m)

  -- the next place belongs to a later record
  even_apart : (r : ℕ) → owned h c (2 * r) ≡ true → owned h c (2 * r + 1) ≡ false
  even_apart r e =
      sym (ap (λ (x : Option ℕ). belongs x c) (at_second h r))
      ∙ one_place c (record_at h r) (ap (λ (x : Option ℕ). belongs x c) (at_first h r) ∙ e)

  pub later : (p q : ℕ) → p < 8192 → owned h c p ≡ true → Found h c (p + 1) 8192 q → p / 2 + 1 ≤ q / 2
  later p q l e f = elim (cases_eq q (p + 1)) [
    | inl x ↦ elim (cases_eq (p % 2) 0) [
      | inl y ↦
          let n : p ≡ 2 * (p / 2) = omega arith in
          let here : owned h c (2 * (p / 2)) ≡ true = ap (owned h c) (sym n) ∙ e in
          let q' : q ≡ 2 * (p / 2) + 1 = omega arith in
          let there : owned h c q ≡ false = ap (owned h c) q' ∙ even_apart (p / 2) here in
          absurd (both_ways (owned h c q) there (f.own (omega arith)))
      | inr y ↦ omega arith
    ]
    | inr x ↦ omega (arith, f.low)
  ]

module _ {G : Type 0} (s : Scheme G) (h : Meaning) (c : ℕ) where
  abbrev from : ℕ → Rows G → Rows G
  from i rows = rows_from s h (Some c) i rows

  abbrev tallied : ℕ → Rows G → ℕ
  tallied i rows = count_from s h (Some c) i rows

  -- a record that is not woken changes nothing
  visit_asleep : (r : ℕ) (x : Option Record) (rows : Rows G) → woken c x ≡ false
      → visit s h (Some c) r x rows ≡ rows
  visit_asleep r None rows e = refl
  visit_asleep r (Some rec) rows e = rw e

  visited_asleep : (r : ℕ) (x : Option Record) (rows : Rows G) → woken c x ≡ false
      → visited s h (Some c) r x rows ≡ false
  visited_asleep r None rows e = refl
  visited_asleep r (Some rec) rows e = rw e

  -- so a pass may leave out a run of such records
  skipped : (m i : ℕ) (rows : Rows G) → i + m ≤ length h.records
      → ((r : ℕ) → i ≤ r → r < i + m → woken c (record_at h r) ≡ false)
      → (from i rows ≡ from (i + m) rows) × (tallied i rows ≡ tallied (i + m) rows)
  skipped zero i rows l quiet =
      let e : i ≡ i + 0 = omega arith in
      (ap (λ (k : ℕ). from k rows) e, ap (λ (k : ℕ). tallied k rows) e)
  skipped (suc m) i rows l quiet =
      let here : woken c (record_at h i) ≡ false = quiet i (omega arith) (omega arith) in
      let still = visit_asleep i (record_at h i) rows here in
      let rest = skipped m (i + 1) rows (omega arith) (λ r j k. quiet r (omega arith) (omega arith)) in
      let e : i + 1 + m ≡ i + suc m = omega arith in
      let more : tallied i rows ≡ tallied (i + 1) rows =
      tally_more s h (Some c) rows i (omega arith)
      ∙ ap₂ (λ (t : Bool) (z : Rows G). cond t 1 0 + tallied (i + 1) z)
      (visited_asleep i (record_at h i) rows here) still
      ∙ omega arith in (
        pass_more s h (Some c) rows i (omega arith)
            ∙ ap (from (i + 1)) still ∙ rest.0 ∙ ap (λ (k : ℕ). from k rows) e,
        more ∙ rest.1 ∙ ap (λ (k : ℕ). tallied k rows) e,
      )

  pub skip : (i j : ℕ) (rows : Rows G) → i ≤ j → j ≤ length h.records
      → ((r : ℕ) → i ≤ r → r < j → woken c (record_at h r) ≡ false)
      → (from i rows ≡ from j rows) × (tallied i rows ≡ tallied j rows)
  skip i j rows l m quiet =
      let e : i + (j - i) ≡ j = omega arith in
      let p = skipped (j - i) i rows (omega arith) (λ r k n. quiet r k (omega arith)) in
      (p.0 ∙ ap (λ (k : ℕ). from k rows) e, p.1 ∙ ap (λ (k : ℕ). tallied k rows) e)

  -- from the start to the first place of the chain, and from one place to the next
  pub to_first : (q : ℕ) (rows : Rows G) → length h.records ≡ 4096 → Found h c 0 8192 q
      → (from 0 rows ≡ from (q / 2) rows) × (tallied 0 rows ≡ tallied (q / 2) rows)
  to_first q rows w f =
      skip 0 (q / 2) rows (omega arith) (omega (arith, f.high))
      (λ r l m. asleep_before h c 0 q f r (omega arith) (omega arith))

  pub to_next : (p q : ℕ) (rows : Rows G) → length h.records ≡ 4096 → p < 8192 → owned h c p ≡ true
      → Found h c (p + 1) 8192 q
      → (from (p / 2 + 1) rows ≡ from (q / 2) rows) × (tallied (p / 2 + 1) rows ≡ tallied (q / 2) rows)
  to_next p q rows w l e f =
      skip (p / 2 + 1) (q / 2) rows (later h c p q l e f) (omega (arith, f.high))
      (λ r k m. asleep_before h c (p + 1) q f r (omega arith) (omega arith))

  -- the rows after a place and what lies between it and the next
  pub next_rows : (p q : ℕ) (rows rows' end : Rows G) → length h.records ≡ 4096 → p < 8192
      → owned h c p ≡ true → Found h c (p + 1) 8192 q
      → rows' ≡ after_visit s h (Some c) (p / 2) rows → from (p / 2) rows ≡ end → from (q / 2) rows' ≡ end
  next_rows p q rows rows' end w l e f is all =
      sym (to_next p q rows' w l e f).0
      ∙ ap (from (p / 2 + 1)) is
      ∙ sym (pass_more s h (Some c) rows (p / 2) (omega arith))
      ∙ all
