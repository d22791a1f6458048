-- What an answer tells of the fault that it was made of.
use Rattle.std.proofs.Common.{◌≡◌, ℕ, Some, None, Ok, Err, Option, Result, refl, arith}
use Rattle.model.specs.declared.fault.Fault.{Fault}
use Rattle.model.specs.Faults.{answer, first}

-- a result is not both a value and a fault, and holds one value
pub ok_err : {A E : Type 0} {r : Result A E} {x : A} {e : E} → r ≡ Ok x → r ≡ Err e → ⊥
ok_err p q = let z : ◌≡◌ {A = ℕ} 0 1 = cc in omega arith

pub ok_same : {A E : Type 0} {r : Result A E} {x y : A} → r ≡ Ok x → r ≡ Ok y → x ≡ y
ok_same p q = cc

pub no_fault : {A : Type 0} (o : Option Fault) (a b : A) → Ok b ≡ answer o a → o ≡ None
no_fault None a b e = refl
no_fault (Some f) a b e = cc

pub a_fault : {A : Type 0} (o : Option Fault) (a : A) (f : Fault) → Err f ≡ answer o a → o ≡ Some f
a_fault None a f e = cc
a_fault (Some g) a f e = cc

-- the two parts of no fault
pub first_none : (a b : Option Fault) → first a b ≡ None → (a ≡ None) × (b ≡ None)
first_none None b e = (refl, e)
first_none (Some f) b e = (cc, cc)
