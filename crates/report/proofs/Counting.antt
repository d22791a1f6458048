-- The filled places of a heap, counted as it tells of one number after another.
use Rattle.std.proofs.Common.{◌≡◌, ℕ, ◌<◌, List, [], ◌∷◌, length, map, get_or, is_some, None, Option, count_by, refl, sym, ap, ◌∙◌, arith}
use Rattle.std.specs.List.{range_with_len}
use Rattle.std.proofs.lemmas.List.FromFn.{fill_by_all}
use Rattle.std.proofs.lemmas.Grind.{common_steps}
use Rattle.report.specs.Count.{count_filled}

-- to count the filled places is to count by the test for one
pub filled-count_by : {A : Type 0} (xs : List (Option A)) → count_by is_some xs ≡ count_filled xs
unfolding count_filled
filled-count_by [] = refl
filled-count_by (x ∷ xs) = grind (arith, common_steps, filled-count_by xs)

-- .. also where the places are told one by one
pub filled-told : {A : Type 0} (at : ℕ → Option A) (xs : List (Option A)) (n : ℕ) → length xs ≡ n →
    ((k : ℕ) → k < n → get_or xs k None ≡ at k) →
    count_by is_some (map at (range_with_len 0 n)) ≡ count_filled xs
filled-told at xs n e told = ap (count_by is_some) (sym (fill_by_all at xs n None e told)) ∙ filled-count_by xs
