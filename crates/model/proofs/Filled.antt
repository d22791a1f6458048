-- Membership of a list, and what `filled` lists: each filled place, with its number.
use Rattle.std.proofs.Common.{◌≡◌, ℕ, zero, suc, ◌+◌, List, [], ◌∷◌, get_or, Some, None, Option, refl, subst, add-zero, arith}
use Rattle.model.specs.Settling.{filled_from, filled}

-- no place is both empty and filled, and a filled one holds one thing
pub none_some : {A : Type 0} {o : Option A} {x : A} → o ≡ None → o ≡ Some x → ⊥
none_some p q = let z : ◌≡◌ {A = ℕ} 0 1 = cc in omega arith

pub some_same : {A : Type 0} {o : Option A} {x y : A} → o ≡ Some x → o ≡ Some y → x ≡ y
some_same p q = cc

-- x stands in the list
pub data In {A : Type 0} (x : A) : List A → Type 0 where
  here : {xs : List A} → In x (x ∷ xs)
  there : {y : A} {xs : List A} → In x xs → In x (y ∷ xs)

module _ {A : Type 0} where
  -- what fills a place is listed, under the number of the place
  one_on : (i j : ℕ) (x : A) (ps : List (ℕ × A)) → In (suc i + j, x) ps → In (i + suc j, x) ps
  one_on i j x ps m = subst (λ (k : ℕ). In (k, x) ps) (omega arith) m

  in_filled_from : (i : ℕ) (xs : List (Option A)) (j : ℕ) (x : A) → get_or xs j None ≡ Some x
      → In (i + j, x) (filled_from i xs)
  in_filled_from i [] j x e = absurd (none_some refl e)
  in_filled_from i (None ∷ xs) zero x e = absurd (none_some refl e)
  in_filled_from i (Some y ∷ xs) zero x e = rw (add-zero i, some_same e refl) here
  in_filled_from i (None ∷ xs) (suc j) x e = one_on i j x _ (in_filled_from (suc i) xs j x e)
  in_filled_from i (Some y ∷ xs) (suc j) x e = there (one_on i j x _ (in_filled_from (suc i) xs j x e))

  pub in_filled : (xs : List (Option A)) (j : ℕ) (x : A) → get_or xs j None ≡ Some x → In (j, x) (filled xs)
  in_filled xs j x e = subst (λ (k : ℕ). In (k, x) (filled xs)) (omega arith) (in_filled_from 0 xs j x e)

  -- what is listed fills the place of that number
  from_filled_from : (i : ℕ) (xs : List (Option A)) (p : ℕ × A) → In p (filled_from i xs)
      → (j : ℕ) × (p.0 ≡ i + j) × (get_or xs j None ≡ Some p.1)
  from_filled_from i [] p m = elim m [ ]
  from_filled_from i (None ∷ xs) p m =
      let q = from_filled_from (suc i) xs p m in
      (suc q.0, omega arith, q.2)
  from_filled_from i (Some y ∷ xs) p here = (0, omega arith, refl)
  from_filled_from i (Some y ∷ xs) p (there m) =
      let q = from_filled_from (suc i) xs p m in
      (suc q.0, omega arith, q.2)

  pub from_filled : (xs : List (Option A)) (p : ℕ × A) → In p (filled xs)
      → get_or xs p.0 None ≡ Some p.1
  from_filled xs p m =
      let q = from_filled_from 0 xs p m in
      let e : q.0 ≡ p.0 = omega arith in
      rw e at q.2
