-- The first fault among entries that are judged one after the other.
use Rattle.std.proofs.Common.{◌≡◌, ℕ, zero, suc, ◌+◌, ◌<◌, Some, None, Ok, Option, refl, inl, inr, add-one, arith}
use Rattle.std.proofs.lemmas.Bool.{cases_eq}
use Rattle.model.specs.declared.fault.Fault.{Fault}
use Rattle.model.specs.Faults.{answer}
use Rattle.model.proofs.Faults.{no_fault, first_none}
use Rattle.snapshot.specs.Entries.{first_of}

pub begins : (f : ℕ → Option Fault) → first_of f 0 ≡ None
unfolding first_of
begins f = refl

pub goes_past : (f : ℕ → Option Fault) (i : ℕ) → first_of f i ≡ None → f i ≡ None → first_of f (i + 1) ≡ None
unfolding first_of
goes_past f i h e = rw (add-one, h) e

pub goes_on : (f : ℕ → Option Fault) (i : ℕ) (u : Unit {0}) → first_of f i ≡ None →
    Ok u ≡ answer (f i) tt → first_of f (i + 1) ≡ None
goes_on f i u h e = goes_past f i h (no_fault (f i) tt u e)

-- a fault at one entry is the first of all, where none stands before it
pub first_at : (f : ℕ → Option Fault) (i n : ℕ) (x : Fault) → first_of f i ≡ None → f i ≡ Some x → i < n →
    first_of f n ≡ Some x
unfolding first_of
first_at f i zero x h e l = absurd (omega arith)
first_at f i (suc n) x h e l = elim (cases_eq i n) [
  | inl p ↦ rw (← p, h, e)
  | inr p ↦ rw (first_at f i n x h e (omega arith))
]

-- no fault at all is none at any entry
pub none_at : (f : ℕ → Option Fault) (n : ℕ) → first_of f n ≡ None → (k : ℕ) → k < n → f k ≡ None
unfolding first_of
none_at f zero h k l = absurd (omega arith)
none_at f (suc n) h k l =
    let p = first_none (first_of f n) (f n) h in
    elim (cases_eq k n) [
      | inl e ↦ rw e p.1
      | inr e ↦ none_at f n p.0 k (omega arith)
    ]
