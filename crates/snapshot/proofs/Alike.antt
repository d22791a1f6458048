-- Two sorted sections with the same entries have them in the same places.
use Rattle.std.proofs.Common.{◌≡◌, ℕ, zero, suc, ◌<◌, ◌≤◌, Bool, true, false, cond, eqb, Some, None, Option, sym, refl, ap, ◌∙◌, inl, inr, arith}
use Rattle.std.proofs.lemmas.Bool.{cases_lt, cases_order, eqb-true}
use Rattle.snapshot.specs.Sections.{Rising, which}
use Rattle.snapshot.proofs.Halving.{rising_to, rising_past}

-- an entry with that number and that value
abbrev pub Entry : {A : Type 0} → (ℕ → ℕ) → (ℕ → A) → ℕ → ℕ → A → Type 0
Entry num v count n x = (j : ℕ) × (j < count) × (num j ≡ n) × (v j ≡ x)

-- what is shown of the entry that is found comes of an entry
pub shown_entry : {A : Type 0} (num : ℕ → ℕ) (v : ℕ → A) (of : Option ℕ → Option A) (count n : ℕ) (x : A) →
    of None ≡ None → ((j : ℕ) → of (Some j) ≡ Some (v j)) → of (which num count n) ≡ Some x →
    Entry num v count n x
unfolding which
shown_entry {A} num v of zero n x none some e = absurd (never (of None) none e)
  where
    never : (o : Option A) → o ≡ None → o ≡ Some x → ⊥
    never o p q = let z : ◌≡◌ {A = ℕ} 0 1 = cc in omega arith
shown_entry {A} num v of (suc c) n x none some e =
    go (eqb (num c) n) refl e (λ q. shown_entry num v of c n x none some q)
  where
    go : (t : Bool) → eqb (num c) n ≡ t → of (cond t (Some c) (which num c n)) ≡ Some x →
        (of (which num c n) ≡ Some x → Entry num v c n x) → Entry num v (suc c) n x
    go true p q before = (c, omega arith, eqb-true (num c) n p, (let s = some c in cc))
    go false p q before =
        let r = before q in
        (r.0, omega (arith, r.1), r.2, r.3)

-- every entry of the one is in the other
abbrev pub Into : {A : Type 0} → (ℕ → ℕ) → (ℕ → A) → ℕ → (ℕ → ℕ) → (ℕ → A) → ℕ → Type 0
Into num v count num' v' count' = (k : ℕ) → k < count → Entry num' v' count' (num k) (v k)

-- the first numbers that differ: the lower one is missing on the other side
lower : {A : Type 0} (f : ℕ → ℕ) (v : ℕ → A) (m : ℕ) (g : ℕ → ℕ) (w : ℕ → A) (n : ℕ) → Rising f m →
    Rising g n →
    Into f v m g w n → (k : ℕ) → k < m → k < n → ((j : ℕ) → j < k → f j ≡ g j) → f k < g k → ⊥
lower f v m g w n rf rg into k l l' same lt =
    let e = into k l in
    elim (cases_lt e.0 k) [
      | inl p ↦ omega (arith, same e.0 p, rising_past f m rf e.0 k p l, e.2)
      | inr p ↦ omega (arith, rising_to g n rg k e.0 p e.1, e.2)
    ]

agree : {A : Type 0} (f : ℕ → ℕ) (v : ℕ → A) (m : ℕ) (g : ℕ → ℕ) (w : ℕ → A) (n : ℕ) → Rising f m →
    Rising g n →
    Into f v m g w n → Into g w n f v m → (c k : ℕ) → k < c → k < m → k < n → f k ≡ g k
agree f v m g w n rf rg into back zero k l a b = absurd (omega arith)
agree f v m g w n rf rg into back (suc c) k l a b =
    let below : (j : ℕ) → j < k → f j ≡ g j =
    λ j p. agree f v m g w n rf rg into back c j (omega arith) (omega arith) (omega arith) in
    elim (cases_order (f k) (g k)) [
      | inl e ↦ e
      | inr q ↦ elim q [
        | inl lt ↦ absurd (lower f v m g w n rf rg into k a b below lt)
        | inr gt ↦ absurd (lower g w n f v m rg rf back k b a (λ j p. sym (below j p)) gt)
      ]
    ]

-- neither has more entries
fewer : {A : Type 0} (f : ℕ → ℕ) (v : ℕ → A) (m : ℕ) (g : ℕ → ℕ) (w : ℕ → A) (n : ℕ) → Rising f m →
    Rising g n →
    Into f v m g w n → Into g w n f v m → m ≤ n
fewer f v m g w n rf rg into back = elim (cases_lt n m) [
  | inl p ↦
      (let e = into n p in
      let s = agree f v m g w n rf rg into back (suc e.0) e.0 (omega arith) (omega (arith, e.1))
      e.1 in
      omega (arith, s, e.2, rising_past f m rf e.0 n e.1 p))
  | inr p ↦ p
]

pub record Alike {A : Type 0} (f : ℕ → ℕ) (v : ℕ → A) (m : ℕ) (g : ℕ → ℕ) (w : ℕ → A) (n : ℕ) : Type 0 where
  pub count : m ≡ n
  pub numbers : (k : ℕ) → k < m → f k ≡ g k
  pub values : (k : ℕ) → k < m → v k ≡ w k

pub alike : {A : Type 0} (f : ℕ → ℕ) (v : ℕ → A) (m : ℕ) (g : ℕ → ℕ) (w : ℕ → A) (n : ℕ) → Rising f m →
    Rising g n →
    Into f v m g w n → Into g w n f v m → Alike f v m g w n
alike {A} f v m g w n rf rg into back = record { count = count; numbers = numbers; values = values }
  where
    count : m ≡ n
    count =
        let p = fewer f v m g w n rf rg into back in
        let q = fewer g w n f v m rg rf back into in
        omega arith

    numbers : (k : ℕ) → k < m → f k ≡ g k
    numbers k l = agree f v m g w n rf rg into back (suc k) k (omega arith) l (let e = count in omega arith)

    -- an entry of the number of entry k is entry k
    only : (k j : ℕ) → k < n → j < n → g j ≡ g k → j ≡ k
    only k j l l' e = elim (cases_order j k) [
      | inl q ↦ q
      | inr q ↦ elim q [
        | inl lt ↦ absurd (omega (arith, rising_past g n rg j k lt l))
        | inr gt ↦ absurd (omega (arith, rising_past g n rg k j gt l'))
      ]
    ]

    values : (k : ℕ) → k < m → v k ≡ w k
    values k l =
        let e = into k l in
        let c = count in
        let j : e.0 ≡ k = only k e.0 (omega arith) e.1 (omega (arith, e.2, numbers k l)) in
        sym e.3 ∙ ap w j
