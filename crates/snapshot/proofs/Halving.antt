-- Numbers that rise: where one stands among them.
use Rattle.std.proofs.Common.{◌≡◌, ℕ, zero, suc, ◌<◌, ◌≤◌, Some, None, Option, sym, refl, ap, subst, inl, inr, arith}
use Rattle.std.proofs.lemmas.Bool.{cases_lt, cases_eq, eq-eqb, ne_eqb}
use Rattle.snapshot.specs.Sections.{Rising, which}

pub rising_to : (num : ℕ → ℕ) (n : ℕ) → Rising num n → (i j : ℕ) → i ≤ j → j < n → num i ≤ num j
rising_to num n h i zero l m = let e : i ≡ 0 = omega arith in rw e (omega arith)
rising_to num n h i (suc j) l m = elim (cases_lt i (suc j)) [
  | inl p ↦
      (let a : num i ≤ num j = rising_to num n h i j (omega arith) (omega arith) in
      omega (arith, h j m))
  | inr p ↦ (let e : i ≡ suc j = omega arith in rw e (omega arith))
]

-- the last entry that has the number is the one that is found
pub which_at : (num : ℕ → ℕ) (n count k : ℕ) → k < count → num k ≡ n →
    ((j : ℕ) → k < j → j < count → n < num j) → which num count n ≡ Some k
unfolding which
which_at num n zero k l e above = absurd (omega arith)
which_at num n (suc c) k l e above = elim (cases_eq k c) [
  | inl p ↦
      (let t = eq-eqb (num c) n (subst (λ (x : ℕ). num x ≡ n) p e) in
      rw t (ap {B = Option ℕ} Some (sym p)))
  | inr p ↦
      (let t = ne_eqb (num c) n (λ q. omega (arith, above c (omega arith) (omega arith))) in
      rw t (which_at num n c k (omega arith) e (λ j a b. above j a (omega arith))))
]

pub which_none : (num : ℕ → ℕ) (n count : ℕ) → ((j : ℕ) → j < count → num j ≡ n → ⊥) →
    which num count n ≡ None
unfolding which
which_none num n zero h = refl
which_none num n (suc c) h =
    let t = ne_eqb (num c) n (h c (omega arith)) in
    rw t (which_none num n c (λ j l. h j (omega arith)))

-- past an entry the numbers are higher
pub rising_past : (num : ℕ → ℕ) (n : ℕ) → Rising num n → (i j : ℕ) → i < j → j < n → num i < num j
rising_past num n h i j l m =
    omega (arith, h i (omega arith), rising_to num n h (suc i) j (omega arith) m)
