-- Grading by strength: a cell's grade is the weakest link on the way to it.
use Rattle.std.specs.Prelude.{ℕ, true, cond, Result, nat_lt}
use Rattle.model.specs.declared.fault.Fault.{Fault}
use Rattle.model.specs.declared.record.Strength.{Strength}
use Rattle.model.specs.declared.record.Strength.TheVariants.{Strong}
use Rattle.model.specs.Strengths.{strength_number, strength_of}
use Rattle.model.specs.Schemes.{Scheme}
use Rattle.schemes.specs.Number.{by_number, limit_if}

-- the one of the larger number
abbrev pub weaker_of : Strength → Strength → Strength
weaker_of a b = cond (nat_lt (strength_number a) (strength_number b)) b a

-- every strength is a grade, and the strongest is the best
abbrev pub by_strength : Scheme Strength
by_strength = record {
  kind = λ a. true;
  rank = λ a b. by_number (strength_number a) (strength_number b);
  start = λ r n. Strong;
  along = λ r n a k. weaker_of a k;
  join = λ r n a b. weaker_of a b;
}

-- 0 to 3 are the numbers of strengths
abbrev pub strength_limit : ℕ → Result Strength Fault
strength_limit k = limit_if (nat_lt k 4) (strength_of k)
