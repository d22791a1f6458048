-- The least of a set of offers, by grade, then cell, then record.
use Rattle.std.proofs.Common.{◌≡◌, ℕ, zero, suc, ◌+◌, ◌⊎◌, [], ◌∷◌, get_or, Some, None, Option, refl, ap, ◌∙◌, subst, inl, inr, arith}
use Rattle.model.specs.declared.record.Record.{Record}
use Rattle.model.specs.declared.row.Row.{Row}
use Rattle.model.specs.declared.row.Offer.{Offer}
use Rattle.model.specs.Schemes.{Scheme, Lawful}
use Rattle.model.specs.Meaning.{Meaning, record_at}
use Rattle.model.specs.Settling.{Rows, better_of, offer, best, filled}
use Rattle.model.proofs.Filled.{none_some, some_same, in_filled, from_filled}
use Rattle.model.proofs.Choice.{better_sound, best_sound, best_least}
use Rattle.model.proofs.Order.{First, ComesBefore, first_refl, first_trans, first_both, best_first}
use Rattle.model.proofs.Order.{better_left, better_right}
use Rattle.offers.specs.Offers.{waiting}
use Rattle.engine.specs.Working.{scan, chosen}

-- x is the first of the offers in P, or absent where P is empty
pub record Least {G : Type 0} (s : Scheme G) (P : Offer G → Type 0) (x : Option (Offer G)) : Type 0 where
  pub held : (o : Offer G) → x ≡ Some o → P o
  pub first : (a : Offer G) → P a → (o : Offer G) × (x ≡ Some o) × First s o a

-- some record makes the offer a, where these rows are settled
abbrev pub Offers : {G : Type 0} → Scheme G → Meaning → Rows G → Offer G → Type 0
Offers s h rows a =
    (r : ℕ) × (rec : Record) × (record_at h r ≡ Some rec) × (offer s h rows r rec ≡ Some a)

-- .. to cell n
abbrev pub OffersTo : {G : Type 0} → Scheme G → Meaning → Rows G → ℕ → Offer G → Type 0
OffersTo s h rows n a = Offers s h rows a × (a.cell ≡ n)

-- the offer a waits in one of the rows, which are those of cell i and after
abbrev pub Waits : {G : Type 0} → ℕ → Rows G → Offer G → Type 0
Waits i rows a = (n : ℕ) × (waiting (i + n) (get_or rows n None) ≡ Some a)

abbrev pub WaitsSomewhere : {G : Type 0} → Rows G → Offer G → Type 0
WaitsSomewhere rows a = (n : ℕ) × (waiting n (get_or rows n None) ≡ Some a)

module _ {G : Type 0} (s : Scheme G) (law : Lawful s) where
  -- a set has at most one least offer
  pub least_same : (P : Offer G → Type 0) (x y : Option (Offer G)) → Least s P x → Least s P y → x ≡ y
  least_same P None None p q = refl
  least_same P (Some a) None p q = absurd (none_some refl (q.first a (p.held a refl)).1)
  least_same P None (Some b) p q = absurd (none_some refl (p.first b (q.held b refl)).1)
  least_same P (Some a) (Some b) p q =
      let u = q.first a (p.held a refl) in
      let v = p.first b (q.held b refl) in
      let f : First s b a = subst (λ (o : Offer G). First s o a) (some_same u.1 refl) u.2 in
      let g : First s a b = subst (λ (o : Offer G). First s o b) (some_same v.1 refl) v.2 in
      ap {B = Option (Offer G)} Some (first_both s law a b g f)

  -- what is the least of a set is the least of any set with the same offers
  pub least_iff : (P Q : Offer G → Type 0) (x : Option (Offer G))
      → ((a : Offer G) → P a → Q a) → ((a : Offer G) → Q a → P a) → Least s P x → Least s Q x
  least_iff P Q x f g p = record { held = λ o e. f o (p.held o e); first = λ a q. p.first a (g a q) }

  pub least_none : (P : Offer G → Type 0) → ((a : Offer G) → P a → ⊥) → Least s P None
  least_none P f = record { held = λ o e. absurd (none_some refl e); first = λ a p. absurd (f a p) }

  pub least_self : (x : Option (Offer G)) → Least s (λ a. x ≡ Some a) x
  least_self x = record { held = λ o e. e; first = λ a e. (a, e, first_refl s law a) }

  -- what comes before an offer still does once it is compared with another
  pub before_left : (a : Offer G) (x y : Option (Offer G)) → ComesBefore s x a
      → ComesBefore s (better_of s x y) a
  before_left a x y (o, e, f) =
      let b = better_left s law o y in
      let w : better_of s x y ≡ Some b.0 = ap (λ (v : Option (Offer G)). better_of s v y) e ∙ b.1 in
      (b.0, w, first_trans s law b.0 o a b.2 f)

  pub before_right : (a : Offer G) (x y : Option (Offer G)) → ComesBefore s y a
      → ComesBefore s (better_of s x y) a
  before_right a x y (o, e, f) =
      let b = better_right s law x o in
      let w : better_of s x y ≡ Some b.0 = ap (better_of s x) e ∙ b.1 in
      (b.0, w, first_trans s law b.0 o a b.2 f)

  -- so `better_of` finds the least of two sets from the least of each
  pub least_join : (P Q : Offer G → Type 0) (x y : Option (Offer G)) → Least s P x → Least s Q y
      → Least s (λ a. P a ⊎ Q a) (better_of s x y)
  least_join P Q x y p q = record { held = held'; first = first' }
    where
      held' : (o : Offer G) → better_of s x y ≡ Some o → P o ⊎ Q o
      held' o e = elim (better_sound s law x y o e) [
        | inl f ↦ inl (p.held o f)
        | inr f ↦ inr (q.held o f)
      ]

      first' : (a : Offer G) → P a ⊎ Q a → ComesBefore s (better_of s x y) a
      first' a (inl u) = before_left a x y (p.first a u)
      first' a (inr u) = before_right a x y (q.first a u)

  -- the least of many sets, from the least of each
  pub least_union : (P : ℕ → Offer G → Type 0) (x : ℕ → Option (Offer G)) (y : Option (Offer G))
      → ((n : ℕ) → Least s (P n) (x n)) → Least s (λ a. (n : ℕ) × (x n ≡ Some a)) y
      → Least s (λ a. (n : ℕ) × P n a) y
  least_union P x y p q = record {
    held = λ o e. let w = q.held o e in (w.0, (p w.0).held o w.1);
    first = λ a u.
        let v = (p u.0).first a u.1 in
        let w = q.first v.0 (u.0, v.1) in
        (w.0, w.1, first_trans s law w.0 v.0 a w.2 v.2);
  }

  -- the best offer of the settling rule is the least of those that the records make
  module _ (h : Meaning) (rows : Rows G) where
    abbrev of_all : Option (Offer G)
    of_all = best s h rows (filled h.records)

    best_held : (o : Offer G) → of_all ≡ Some o → Offers s h rows o
    best_held o e =
        let p = best_sound s law h rows (filled h.records) o e in
        (p.0.0, p.0.1, from_filled h.records p.0 p.1, p.2)

    best_before : (a : Offer G) → Offers s h rows a → ComesBefore s of_all a
    best_before a (r, rec, e, f) =
        let m = in_filled h.records r rec e in
        let b = best_least s law h rows (filled h.records) (r, rec) a m f in
        (b.0, b.1, best_first s law h rows (filled h.records) (r, rec) a b.0 m f b.1)

    pub least_best : Least s (Offers s h rows) of_all
    least_best = record { held = best_held; first = best_before }

  at_place : (i j : ℕ) (x : Option (Row G)) (a : Offer G) → i ≡ j
      → waiting i x ≡ Some a → waiting j x ≡ Some a
  at_place i j x a e f = rw e at f

  -- the offer that the engine chooses is the least of those that wait
  scan_least : (i : ℕ) (rows : Rows G) (b : Option (Offer G)) (P : Offer G → Type 0) → Least s P b
      → Least s (λ a. P a ⊎ Waits i rows a) (scan s i rows b)
  unfolding scan
  scan_least i [] b P p = least_iff P (λ a. P a ⊎ Waits i [] a) b (λ a u. inl u) from p
    where
      from : (a : Offer G) → P a ⊎ Waits i [] a → P a
      from a (inl u) = u
      from a (inr u) = absurd (none_some refl u.1)
  scan_least i (x ∷ xs) b P p =
      least_iff (λ a. Q a ⊎ Waits (i + 1) xs a) (λ a. P a ⊎ Waits i (x ∷ xs) a) _ to from
      (scan_least (i + 1) xs (better_of s b (waiting i x)) Q
      (least_join P (λ a. waiting i x ≡ Some a) b (waiting i x) p (least_self (waiting i x))))
    where
      Q : Offer G → Type 0
      Q a = P a ⊎ (waiting i x ≡ Some a)

      to : (a : Offer G) → Q a ⊎ Waits (i + 1) xs a → P a ⊎ Waits i (x ∷ xs) a
      to a (inl (inl u)) = inl u
      to a (inl (inr u)) = inr (0, at_place i (i + 0) x a (omega arith) u)
      to a (inr (n, u)) = inr (suc n, at_place (i + 1 + n) (i + suc n) (get_or xs n None) a (omega arith) u)

      from' : (a : Offer G) (n : ℕ) → waiting (i + n) (get_or (x ∷ xs) n None) ≡ Some a
          → Q a ⊎ Waits (i + 1) xs a
      from' a zero u = inl (inr (at_place (i + 0) i x a (omega arith) u))
      from' a (suc n) u = inr (n, at_place (i + suc n) (i + 1 + n) (get_or xs n None) a (omega arith) u)

      from : (a : Offer G) → P a ⊎ Waits i (x ∷ xs) a → Q a ⊎ Waits (i + 1) xs a
      from a (inl u) = inl (inl u)
      from a (inr u) = from' a u.0 u.1

  pub least_chosen : (rows : Rows G) → Least s (WaitsSomewhere rows) (chosen s rows)
  least_chosen rows =
      least_iff (λ a. ⊥ ⊎ Waits 0 rows a) (WaitsSomewhere rows) _ to from
      (scan_least 0 rows None (λ a. ⊥) (least_none (λ a. ⊥) (λ a u. u)))
    where
      to : (a : Offer G) → ⊥ ⊎ Waits 0 rows a → WaitsSomewhere rows a
      to a (inl u) = absurd u
      to a (inr (n, u)) = (n, at_place (0 + n) n (get_or rows n None) a (omega arith) u)

      from : (a : Offer G) → WaitsSomewhere rows a → ⊥ ⊎ Waits 0 rows a
      from a (n, u) = inr (n, at_place n (0 + n) (get_or rows n None) a (omega arith) u)
