-- What settling one more cell changes: a record that it wakes gave nothing before, and any
-- other gives what it gave.
use Rattle.std.proofs.Common.{◌≡◌, ℕ, ◌+◌, ◌<◌, Bool, true, false, cond, eqb, length, get_or, set, is_some, Some, None, Option, sym, refl, ap, ◌∙◌, subst, ap₂, inl, inr, arith}
use Rattle.std.proofs.lemmas.List.{get_or-set_same, get_or-set_other, map-set, length-map}
use Rattle.std.proofs.lemmas.Bool.{cases_eq, false≢true, eqb-true, eqb-false, lt-ltb, or_cases, or_parts}
use Rattle.model.specs.declared.record.Record.{Record}
use Rattle.model.specs.declared.record.Record.TheVariants.{Root, Link, Ephemeron}
use Rattle.model.specs.declared.row.Row.{Row}
use Rattle.model.specs.declared.row.Offer.{Offer}
use Rattle.model.specs.Schemes.{Scheme, Lawful}
use Rattle.model.specs.Meaning.{Meaning}
use Rattle.model.specs.Settling.{Rows, target, ready, given, with_grade, offered, offer}
use Rattle.model.proofs.Filled.{none_some}
use Rattle.model.proofs.Knuth.{offer_parts}
use Rattle.offers.specs.Offers.{settled_row, waiting}
use Rattle.engine.specs.Working.{settled_rows, wakes}
use Rattle.engine.proofs.Least.{Least, OffersTo, least_iff, least_none}
use Rattle.engine.proofs.Passes.{size_for, PassedTo, Fine}
use Rattle.engine.proofs.Counts.{ready_one, given_ready}

with_none : {G : Type 0} (x y : Option (Row G)) (f : G → G → G) → y ≡ None
    → with_grade x (λ g. with_grade y (λ k. Some (f g k))) ≡ None
with_none None y f e = refl
with_none (Some row) y f e = rw e

module _ {G : Type 0} (s : Scheme G) (h : Meaning)
    (old : Rows G) (c : ℕ) (row : Row G) (free : get_or old c None ≡ None) where
  abbrev next : Rows G
  next = set old c (Some row)

  unsettled : (a : ℕ) → eqb a c ≡ true → get_or old a None ≡ None
  unsettled a e = let q = eqb-true a c e in rw q free

  wake_none : (n r : ℕ) (rec : Record) → wakes (Some c) rec ≡ true → given s old n r rec ≡ None
  wake_none n r (Root t) w = absurd (false≢true w)
  wake_none n r (Link a t k) w = let e = unsettled a w in rw e
  wake_none n r (Ephemeron a b v) w = elim (or_cases (eqb a c) (eqb b c) w) [
    | inl e ↦ (let f = unsettled a e in rw f)
    | inr e ↦ with_none (get_or old a None) (get_or old b None) (s.join r n) (unsettled b e)
  ]

  apart : (a : ℕ) → eqb a c ≡ false → get_or next a None ≡ get_or old a None
  apart a e = get_or-set_other old c a (Some row) None (eqb-false a c e)

  sleep_same : (n r : ℕ) (rec : Record) → wakes (Some c) rec ≡ false
      → given s next n r rec ≡ given s old n r rec
  sleep_same n r (Root t) w = refl
  sleep_same n r (Link a t k) w =
      ap (λ (x : Option (Row G)). with_grade x (λ g. Some (s.along r n g k))) (apart a w)
  sleep_same n r (Ephemeron a b v) w =
      let p = or_parts (eqb a c) (eqb b c) w in
      ap₂ (λ (x y : Option (Row G)). with_grade x (λ g. with_grade y (λ k. Some (s.join r n g k))))
      (apart a p.0) (apart b p.1)

  offer_same : (r : ℕ) (rec : Record) → wakes (Some c) rec ≡ false → (target rec ≡ c → ⊥)
      → offer s h next r rec ≡ offer s h old r rec
  offer_same r rec w x =
      ap₂ (λ (y : Option (Row G)) (z : Option G). cond (is_some y) None (offered (target rec) r z))
      (get_or-set_other old c (target rec) (Some row) None x) (sleep_same (size_for h rec) r rec w)

  -- the records that are ready now: those that were, and those that woke and are
  pub each_sealed : (rec : Record)
      → cond (wakes (Some c) rec) (ready_one next rec) 0 + ready_one old rec ≡ ready_one next rec
  each_sealed rec = go (wakes (Some c) rec) refl
    where
      go : (t : Bool) → wakes (Some c) rec ≡ t
          → cond t (ready_one next rec) 0 + ready_one old rec ≡ ready_one next rec
      go true w =
          let e : ready old rec ≡ false = sym (given_ready s old 0 0 rec) ∙ ap is_some (wake_none 0 0 rec w) in
          rw e (omega arith)
      go false w =
          let e : ready next rec ≡ ready old rec =
          sym (given_ready s next 0 0 rec) ∙ ap is_some (sleep_same 0 0 rec w) ∙ given_ready s old 0 0 rec in
          rw e (omega arith)

  -- once the cell is sealed, every offer that waits is one of a record that did not wake
  module _ (law : Lawful s) (rows : Rows G) (settled : settled_rows rows ≡ old)
      (below : c < length rows) (early : row.turn < 1024)
      (least : (n : ℕ) → Least s (OffersTo s h old n) (waiting n (get_or rows n None))) where
    abbrev sealed : Rows G
    sealed = set rows c (Some row)

    abbrev P : ℕ → Offer G → Type 0
    P n a = PassedTo s h (Some c) next 0 n a

    is_settled : settled_row (Some row) ≡ Some row
    is_settled = rw (lt-ltb row.turn 1024 early)

    waits_no_more : waiting c (Some row) ≡ None
    waits_no_more = rw (lt-ltb row.turn 1024 early)

    below_old : c < length old
    below_old = omega (arith, ap length settled, length-map rows settled_row)

    none_here : (a : Offer G) → P c a → ⊥
    none_here a ((r, rec, e, f, w), q) =
        let o = offer_parts s h next r rec a f in
        let at-cell = ap (λ (k : ℕ). get_or next k None) (sym o.1 ∙ q) in
        none_some o.0 (at-cell ∙ get_or-set_same old c (Some row) None below_old)

    to : (n : ℕ) → (n ≡ c → ⊥) → (a : Offer G) → OffersTo s h old n a → P n a
    to n x a ((r, rec, e, f), q) = go (wakes (Some c) rec) refl
      where
        go : (t : Bool) → wakes (Some c) rec ≡ t → P n a
        go true w = absurd (none_some (wake_none (size_for h rec) r rec w) (offer_parts s h old r rec a f).3)
        go false w =
            let same = offer_same r rec w (λ z. x (sym q ∙ (offer_parts s h old r rec a f).1 ∙ z)) in
            ((r, rec, e, same ∙ f, inl w), q)

    from : (n : ℕ) → (n ≡ c → ⊥) → (a : Offer G) → P n a → OffersTo s h old n a
    from n x a ((r, rec, e, f, inl w), q) =
        let same = offer_same r rec w (λ z. x (sym q ∙ (offer_parts s h next r rec a f).1 ∙ z)) in
        ((r, rec, e, sym same ∙ f), q)
    from n x a ((r, rec, e, f, inr w), q) = absurd (omega arith)

    abbrev waits_after : ℕ → Option (Offer G)
    waits_after n = waiting n (get_or sealed n None)

    after_here : waits_after c ≡ None
    after_here = ap (waiting c) (get_or-set_same rows c (Some row) None below) ∙ waits_no_more

    least_after : (n : ℕ) → Least s (P n) (waits_after n)
    least_after n = elim (cases_eq n c) [
      | inl x ↦ subst (λ (m : ℕ). Least s (P m) (waits_after m)) (sym x)
          (subst (Least s (P c)) (sym after_here) (least_none s law (P c) none_here))
      | inr x ↦ subst (λ (z : Option (Row G)). Least s (P n) (waiting n z))
          (sym (get_or-set_other rows c n (Some row) None x))
          (least_iff s law (OffersTo s h old n) (P n) _ (to n x) (from n x) (least n))
    ]

    pub sealed_fine : Fine s h (Some c) next 0 sealed
    sealed_fine = record {
      settled =
          map-set settled_row rows c (Some row)
          ∙ ap₂ (λ (x : Rows G) (y : Option (Row G)). set x c y) settled is_settled;
      least = least_after;
    }
