-- What the lowest place of a cell says of the places before it.
use Rattle.std.proofs.Common.{◌≡◌, ℕ, zero, suc, ◌+◌, ◌-◌, ◌<◌, ◌≤◌, Bool, true, false, cond, get_or, Some, None, Option, sym, refl, ap, ◌∙◌, subst, inl, inr, arith}
use Rattle.std.proofs.lemmas.Bool.{cases_eq, cases_lt, eqb-true, false≢true, lt-ltb, le-ltb}
use Rattle.model.specs.Meaning.{Meaning}
use Rattle.chains.specs.declared.Chains.{Chains}
use Rattle.model.proofs.Filled.{none_some, some_same}
use Rattle.chains.specs.Places.{source_at, belongs, seek, lowest, place_if, Chained}

-- the number of a place, or that at which a chain ends
abbrev pub place_or_end : Option ℕ → ℕ
place_or_end None = 8192
place_or_end (Some p) = p

place_back : (q : ℕ) → q ≤ 8192 → place_or_end (place_if q) ≡ q
place_back q l = elim (cases_lt q 8192) [
  | inl m ↦ rw (lt-ltb q 8192 m)
  | inr m ↦ rw (le-ltb q 8192 m) (omega arith)
]

-- what a chain answers is a place, unless it has ended
pub place_there : (x : Option ℕ) (q p : ℕ) → x ≡ place_if q → x ≡ Some p → p < 8192
place_there x q p e f = elim (cases_lt q 8192) [
  | inl m ↦ let g : Some q ≡ x = sym (e ∙ rw (lt-ltb q 8192 m)) in rw (some_same refl (g ∙ f)) at m
  | inr m ↦ let g : None ≡ x = sym (e ∙ rw (le-ltb q 8192 m)) in absurd (none_some refl (g ∙ f))
]

module _ (h : Meaning) (c : ℕ) where
  -- place p belongs to cell c
  abbrev pub owned : ℕ → Bool
  owned p = belongs (source_at h p) c

  -- one place on
  pub lowest_here : (p : ℕ) → p < 8192 → owned p ≡ true → lowest h c p ≡ p
  unfolding seek
  lowest_here p l e =
      let n : 8192 - p ≡ suc (8192 - (p + 1)) = omega arith in
      rw (n, e)

  pub lowest_on : (p : ℕ) → p < 8192 → owned p ≡ false → lowest h c p ≡ lowest h c (p + 1)
  unfolding seek
  lowest_on p l e =
      let n : 8192 - p ≡ suc (8192 - (p + 1)) = omega arith in
      rw (n, e)

  -- q is the lowest of the places from p on, up to z, that belong to the cell
  pub record Found (p z q : ℕ) : Type 0 where
    pub low : p ≤ q
    pub high : q ≤ z
    pub own : q < z → owned q ≡ true
    pub none : (k : ℕ) → p ≤ k → k < q → owned k ≡ false

  one_on : (p z q : ℕ) → owned p ≡ false → Found (p + 1) z q → Found p z q
  one_on p z q e f = record {
    low = omega (arith, f.low);
    high = f.high;
    own = f.own;
    none = λ k l m. elim (cases_eq k p) [
      | inl x ↦ rw x e
      | inr x ↦ f.none k (omega arith) m
    ];
  }

  seek_found : (n p z : ℕ) → p + n ≡ z → Found p z (seek h c p n)
  unfolding seek
  seek_found zero p z e = record {
    low = omega arith;
    high = omega arith;
    own = λ l. absurd (omega arith);
    none = λ k l m. absurd (omega arith);
  }
  seek_found (suc n) p z e = go (owned p) refl (seek_found n (p + 1) z (omega arith))
    where
      go : (t : Bool) → owned p ≡ t → Found (p + 1) z (seek h c (p + 1) n)
          → Found p z (cond t p (seek h c (p + 1) n))
      go true f _ = record {
        low = omega arith;
        high = omega arith;
        own = λ l. f;
        none = λ k l m. absurd (omega arith);
      }
      go false f rest = one_on p z _ f rest

  pub lowest_found : (p : ℕ) → p ≤ 8192 → Found p 8192 (lowest h c p)
  lowest_found p l = seek_found (8192 - p) p 8192 (omega arith)

  -- what a chain answers from place p on: the place found, or none
  abbrev pub FoundFrom : ℕ → Option ℕ → Type 0
  FoundFrom p x = Found p 8192 (place_or_end x)

  placed : (p : ℕ) (x : Option ℕ) (q : ℕ) → x ≡ place_if q → lowest h c p ≡ q → Found p 8192 (lowest h c p)
      → FoundFrom p x
  placed p x q e f found =
      let here : Found p 8192 q = subst (Found p 8192) f found in
      subst (Found p 8192) (sym (ap place_or_end e ∙ place_back q here.high)) here

  owner : (x : Option ℕ) → belongs x c ≡ true → x ≡ Some c
  owner None e = absurd (false≢true e)
  owner (Some a) e = ap {B = Option ℕ} Some (eqb-true a c e)

  -- what the chains answer
  module _ (chains : Chains) (chained : Chained h chains) where
    pub first_found : (x : Option ℕ) → c < 1024 → x ≡ place_if (get_or chains.first c 8192)
        → FoundFrom 0 x
    first_found x l e = placed 0 x _ e (sym (chained.each_first c l)) (lowest_found 0 (omega arith))

    pub next_found : (p : ℕ) (x : Option ℕ) → p < 8192 → owned p ≡ true
        → x ≡ place_if (get_or chains.next p 8192) → FoundFrom (p + 1) x
    next_found p x l o e =
        let own = owner (source_at h p) o in
        placed (p + 1) x _ e (sym (chained.each_next c p (omega arith) l own)) (lowest_found (p + 1) (omega arith))
