-- What a table keeps of its places, by a test of each number and what stands there.
use Rattle.std.specs.Prelude.{ℕ, ◌+◌, Bool, cond, List, [], ◌∷◌, Some, None, Option}

-- what stands at number n, unless it is not kept
abbrev pub retained_at : {A : Type 0} → (ℕ → A → Bool) → ℕ → Option A → Option A
retained_at keep n None = None
retained_at keep n (Some x) = cond (keep n x) (Some x) None

-- the places from number n on
unfoldable pub retained : {A : Type 0} → (ℕ → A → Bool) → ℕ → List (Option A) → List (Option A)
retained keep n [] = []
retained keep n (x ∷ xs) = retained_at keep n x ∷ retained keep (n + 1) xs
