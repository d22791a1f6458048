-- Strengths by number: 0 strong, 1 soft, 2 weak, 3 phantom.
use Rattle.std.specs.Prelude.{ℕ, cond, Some, None, Option, ◌==◌, nat_lt}
use Rattle.model.specs.declared.record.Strength.{Strength}
use Rattle.model.specs.declared.record.Strength.TheVariants.{Strong, Soft, Weak, Phantom}

abbrev pub strength_number : Strength → ℕ
strength_number Strong = 0
strength_number Soft = 1
strength_number Weak = 2
strength_number Phantom = 3

-- the strength of a number up to 3
abbrev pub strength_of : ℕ → Strength
strength_of k = cond (k == 0) Strong (cond (k == 1) Soft (cond (k == 2) Weak Phantom))

abbrev pub strength_if : ℕ → Option Strength
strength_if k = cond (nat_lt k 4) (Some (strength_of k)) None
