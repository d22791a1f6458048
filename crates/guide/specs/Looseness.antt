-- Grading by looseness: how many links that are not strong lead to a cell.
use Rattle.std.specs.Prelude.{ℕ, ◌+◌, min, max, cond, ◌==◌, nat_le, nat_lt}
use Rattle.model.specs.declared.record.Strength.{Strength}
use Rattle.model.specs.declared.record.Strength.TheVariants.{Strong, Soft, Weak, Phantom}
use Rattle.model.specs.declared.scheme.Rank.TheVariants.{Before, Same, After}
use Rattle.model.specs.Schemes.{Scheme}

abbrev pub loose_part : Strength → ℕ
loose_part Strong = 0
loose_part Soft = 1
loose_part Weak = 1
loose_part Phantom = 1

-- where counts end
abbrev pub loosest : ℕ
loosest = 4294967295

-- an ephemeron's value is as loose as the looser of its table and its key
abbrev pub by_looseness : Scheme ℕ
by_looseness = record {
  kind = λ a. nat_le a loosest;
  rank = λ a b. cond (nat_lt a b) Before (cond (a == b) Same After);
  start = λ r n. 0;
  along = λ r n a k. min (a + loose_part k) loosest;
  join = λ r n a b. max a b;
}
