-- Tables of what stands at the numbers below a limit.
use Rattle.std.proofs.Common.{◌≡◌, ℕ, zero, suc, ◌+◌, ◌<◌, ◌≤◌, Bool, true, false, cond, eqb, map, get_or, replicate, Some, None, Option, refl, arith}
use Rattle.std.specs.List.{range_with_len}
use Rattle.std.proofs.lemmas.List.FromFn.{get_or-map-range_with_len}
use Rattle.std.proofs.lemmas.List.{get_or_past}
use Rattle.snapshot.specs.Sections.{which}
use Rattle.snapshot.specs.Laid.{table, length-table, or_else}

pub table_at : {A : Type 0} (n : ℕ) (f : ℕ → Option A) (i : ℕ) → i < n → get_or (table n f) i None ≡ f i
unfolding table
table_at n f i l = get_or-map-range_with_len f 0 n i i None l (omega arith)

pub table_past : {A : Type 0} (n : ℕ) (f : ℕ → Option A) (i : ℕ) → n ≤ i → get_or (table n f) i None ≡ None
table_past n f i l = get_or_past (table n f) i None (let e = length-table n f in omega arith)

-- what holds of nothing and of each f holds of all that stands in the table
pub table_all : {A : Type 0} (P : Option A → Type 0) (n : ℕ) (f : ℕ → Option A) →
    P None → ((k : ℕ) → P (f k)) → (i : ℕ) → P (get_or (table n f) i None)
unfolding table
table_all {A} P n f none each = go 0 n
  where
    go : (a n : ℕ) (i : ℕ) → P (get_or (map f (range_with_len a n)) i None)
    go a zero i = none
    go a (suc n) zero = each a
    go a (suc n) (suc i) = go (a + 1) n i

pub table_none : {A : Type 0} (n : ℕ) (f : ℕ → Option A) → ((k : ℕ) → f k ≡ None) →
    table n f ≡ replicate n None
unfolding table
table_none {A} n f h = go 0 n
  where
    go : (a n : ℕ) → map f (range_with_len a n) ≡ replicate n None
    go a zero = refl
    go a (suc n) = rw (h a, go (a + 1) n)

-- the same of an entry that is found, and of one of two
pub which_all : (P : Option ℕ → Type 0) (num : ℕ → ℕ) (count n : ℕ) →
    P None → ((k : ℕ) → k < count → P (Some k)) → P (which num count n)
unfolding which
which_all P num zero n none each = none
which_all P num (suc c) n none each =
    go (eqb (num c) n) (each c (omega arith)) (which_all P num c n none (λ k l. each k (omega arith)))
  where
    go : (t : Bool) → P (Some c) → P (which num c n) → P (cond t (Some c) (which num c n))
    go true p q = p
    go false p q = q

pub or_else_all : {A : Type 0} (P : Option A → Type 0) (a b : Option A) → P a → P b → P (or_else a b)
or_else_all P None b p q = q
or_else_all P (Some a) b p q = p
