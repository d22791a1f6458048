-- What stands at a number of a list where only the first place is filled.
use Rattle.std.proofs.Common.{◌≡◌, ℕ, zero, suc, nat_eq, get_or, set, replicate, Some, None, Option, refl}
use Rattle.std.specs.Bool.{then_some}
use Rattle.std.proofs.Math.Dec.{eqb-suc-zero}
use Rattle.model.proofs.Kept.{at_new}

pub first_alone : {X : Type 0} (m n : ℕ) (x : X)
    → then_some (nat_eq n 0) x ≡ get_or (set (replicate (suc m) None) 0 (Some x)) n None
first_alone m zero x = refl
first_alone {X} m (suc n) x = rw (eqb-suc-zero n) (at_new (λ (o : Option X). None ≡ o) m None n refl)
