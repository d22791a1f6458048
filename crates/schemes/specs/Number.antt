-- Numbers as grades, and numbers as limits.
use Rattle.std.specs.Prelude.{ℕ, Bool, cond, Result, ◌==◌, nat_lt}
use Rattle.model.specs.declared.fault.Fault.{Fault}
use Rattle.model.specs.declared.fault.Cause.TheVariants.{LimitNumber}
use Rattle.model.specs.declared.scheme.Rank.{Rank}
use Rattle.model.specs.declared.scheme.Rank.TheVariants.{Before, Same, After}
use Rattle.model.specs.Faults.{fault, unless, answer}

-- the smaller number is the better
abbrev pub by_number : ℕ → ℕ → Rank
by_number a b = cond (nat_lt a b) Before (cond (a == b) Same After)

-- the grade that a limit means, unless its number is none
abbrev pub limit_if : {G : Type 0} → Bool → G → Result G Fault
limit_if test g = answer (unless test (fault LimitNumber 2)) g
