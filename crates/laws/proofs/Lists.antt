-- What the lists of a sweep name.
use Rattle.std.proofs.Common.{◌≡◌, ℕ, zero, suc, ◌+◌, ◌≤◌, Bool, true, false, cond, not, List, [], ◌∷◌, get_or, Some, None, Option, sym, refl, ap, ◌∙◌, subst, inl, inr, ⊎_elim, arith}
use Rattle.std.proofs.lemmas.Bool.{not-true}
use Rattle.model.specs.Schemes.{Scheme, Lawful}
use Rattle.model.specs.Meaning.{Meaning, WellFormed}
use Rattle.model.specs.Explaining.{Among}
use Rattle.model.specs.Sweeping.{kept, names_kept, picked, dropped_cells, cleared_records}
use Rattle.model.specs.Sweeping.{Dropped, Cleared, Rising, Lists}
use Rattle.model.proofs.Filled.{none_some, some_same}
use Rattle.laws.proofs.Swept.{unheld_gone, gone_unheld, cleared_gone, gone_cleared}

module _ {A : Type 0} (pick : ℕ → A → Bool) where
  -- place n, counted from i on, is filled and picked
  abbrev At : ℕ → List (Option A) → ℕ → Type 0
  At i xs n = (j : ℕ) × (x : A) × (n ≡ i + j) × (get_or xs j None ≡ Some x) × (pick n x ≡ true)

  later : (i : ℕ) (y : Option A) (xs : List (Option A)) (n : ℕ) → At (i + 1) xs n → At i (y ∷ xs) n
  later i y xs n p = (suc p.0, p.1, omega (arith, p.2), p.3, p.4)

  on : (i j : ℕ) (x : A) → pick (i + suc j) x ≡ true → pick (i + 1 + j) x ≡ true
  on i j x p = ap (λ (k : ℕ). pick k x) (omega arith) ∙ p

  one_on : (i j : ℕ) (xs : List ℕ) → Among (i + 1 + j) xs → Among (i + suc j) xs
  one_on i j xs m = subst (λ (k : ℕ). Among k xs) (omega arith) m

  pub only_picked : (i : ℕ) (xs : List (Option A)) (n : ℕ) → Among n (picked pick i xs) → At i xs n
  unfolding picked
  only_picked i [] n m = absurd m
  only_picked i (None ∷ xs) n m = later i None xs n (only_picked (i + 1) xs n m)
  only_picked i (Some x ∷ xs) n m =
      here_or_later (λ q. later i (Some x) xs n (only_picked (i + 1) xs n q)) (pick i x) refl m
    where
      here_or_later : (Among n (picked pick (i + 1) xs) → At i (Some x ∷ xs) n) → (b : Bool) → pick i x ≡ b
          → Among n (cond b (i ∷ picked pick (i + 1) xs) (picked pick (i + 1) xs)) → At i (Some x ∷ xs) n
      here_or_later rest true e q =
          ⊎_elim (λ z. (zero, x, omega (arith, z), refl, ap (λ (k : ℕ). pick k x) z ∙ e)) rest q
      here_or_later rest false e q = rest q

  -- every picked place is listed
  beyond : (i x : ℕ) (b : Bool) (xs : List ℕ) → Among x xs → Among x (cond b (i ∷ xs) xs)
  beyond i x true xs m = inr m
  beyond i x false xs m = m

  pub every_picked : (i : ℕ) (xs : List (Option A)) (j : ℕ) (x : A) → get_or xs j None ≡ Some x
      → pick (i + j) x ≡ true → Among (i + j) (picked pick i xs)
  unfolding picked
  every_picked i [] j x e p = absurd (none_some refl e)
  every_picked i (None ∷ xs) zero x e p = absurd (none_some refl e)
  every_picked i (Some y ∷ xs) zero x e p =
      let same : y ≡ x = some_same refl e in
      let z : i + 0 ≡ i = omega arith in
      let q : pick i y ≡ true = ap (λ (k : ℕ). pick k y) (sym z) ∙ (ap (pick (i + 0)) same ∙ p) in
      rw q (inl z)
  every_picked i (None ∷ xs) (suc j) x e p = one_on i j (picked pick (i + 1) xs) (every_picked (i + 1) xs j x e (on i j x p))
  every_picked i (Some y ∷ xs) (suc j) x e p =
      beyond i (i + suc j) (pick i y) (picked pick (i + 1) xs)
      (one_on i j (picked pick (i + 1) xs) (every_picked (i + 1) xs j x e (on i j x p)))

  -- each number is above those before it
  pub picked_above : (i : ℕ) (xs : List (Option A)) (n : ℕ) → Among n (picked pick i xs) → i ≤ n
  picked_above i xs n m = let p = only_picked i xs n m in omega (arith, p.2)

  pub picked_rising : (i : ℕ) (xs : List (Option A)) → Rising (picked pick i xs)
  unfolding picked
  picked_rising i [] = tt
  picked_rising i (None ∷ xs) = picked_rising (i + 1) xs
  picked_rising i (Some x ∷ xs) = go (pick i x) (picked_rising (i + 1) xs)
    where
      go : (b : Bool) → Rising (picked pick (i + 1) xs)
          → Rising (cond b (i ∷ picked pick (i + 1) xs) (picked pick (i + 1) xs))
      go true r = (λ n m. omega (arith, picked_above (i + 1) xs n m), r)
      go false r = r

  pub every_first : (xs : List (Option A)) (n : ℕ) (x : A) → get_or xs n None ≡ Some x → pick n x ≡ true
      → Among n (picked pick 0 xs)
  every_first xs n x e p =
      let z : 0 + n ≡ n = omega arith in
      subst (λ (k : ℕ). Among k (picked pick 0 xs)) z
      (every_picked 0 xs n x e (ap (λ (k : ℕ). pick k x) z ∙ p))

  pub only_first : (xs : List (Option A)) (n : ℕ) → Among n (picked pick 0 xs)
      → (x : A) × (get_or xs n None ≡ Some x) × (pick n x ≡ true)
  only_first xs n m =
      let p = only_picked 0 xs n m in
      let at : n ≡ p.0 = omega (arith, p.2) in
      (p.1, ap (λ (k : ℕ). get_or xs k None) at ∙ p.3, p.4)

-- the lists name exactly the dropped cells and the records that name one
module _ {G : Type 0} (s : Scheme G) (law : Lawful s) (h : Meaning) (wf : WellFormed h) (limit : G) where
  pub lists_dropped : Lists (Dropped s limit h) (dropped_cells (kept s limit h) h)
  lists_dropped = record {
    rising = picked_rising (λ c size. not (kept s limit h c)) 0 h.cells;
    only = λ n m.
        let p = only_first (λ c size. not (kept s limit h c)) h.cells n m in
        record {
          size = p.0;
          filled = p.1;
          unheld = unheld_gone s law h wf limit n (not-true (kept s limit h n) p.2);
        };
    every = λ n d.
        every_first (λ c size. not (kept s limit h c)) h.cells n d.size d.filled
        (ap not (gone_unheld s law h wf limit n d.unheld));
  }

  pub lists_cleared : Lists (Cleared s limit h) (cleared_records (kept s limit h) h)
  lists_cleared = record {
    rising = picked_rising (λ r rec. not (names_kept (kept s limit h) rec)) 0 h.records;
    only = λ n m.
        let p = only_first (λ r rec. not (names_kept (kept s limit h) rec)) h.records n m in
        gone_cleared s law h wf limit n p.0 p.1 (not-true (names_kept (kept s limit h) p.0) p.2);
    every = λ n d.
        every_first (λ r rec. not (names_kept (kept s limit h) rec)) h.records n d.content d.filled
        (ap not (cleared_gone s law h wf limit n d));
  }
