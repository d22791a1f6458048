-- How many places of a list are filled.
use Rattle.std.specs.Prelude.{ℕ, ◌+◌, cond, List, [], ◌∷◌, is_some, Option}

unfoldable pub count_filled : {A : Type 0} → List (Option A) → ℕ
count_filled [] = 0
count_filled (x ∷ xs) = cond (is_some x) 1 0 + count_filled xs
