-- The law upon runs.
use Rattle.std.proofs.Common.{◌≡◌, List, [], ◌∷◌, sym, subst}
use Rattle.model.specs.Meaning.{Meaning, WellFormed}
use Rattle.model.specs.Calls.{empty_heap}
use Rattle.laws.specs.Reference.{Call}
use Rattle.laws.specs.Runs.{refusal, after_call, Together}
use Rattle.laws.proofs.Formed.{after_formed, empty_formed}
use Rattle.laws.proofs.Taking.{same_self, can_take, takes_so}
use Rattle.laws.proofs.Truth.{tells_truly}

-- a heap goes together with the model that holds what it holds, since the model can move in one way only
pub together : (h : Meaning) → WellFormed h → (calls : List (Call List)) → Together h h calls
together h wf [] = same_self h
together h wf (call ∷ calls) = (
  same_self h,
  (refusal h call, after_call h call, can_take h wf call),
  λ f next t.
      let so = takes_so h wf call f next t in (
        so.0,
        tells_truly h wf call,
        subst (λ (m : Meaning). Together (after_call h call) m calls) so.1
            (together (after_call h call) (after_formed h wf call) calls),
      ),
)

pub from_empty : (h : Meaning) → h ≡ empty_heap → (calls : List (Call List)) → Together h empty_heap calls
from_empty h e calls =
    subst (λ (a : Meaning). Together a empty_heap calls) (sym e) (together empty_heap empty_formed calls)
