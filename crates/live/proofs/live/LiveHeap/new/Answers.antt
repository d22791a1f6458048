use Rattle.std.proofs.Common.{rules}
use Rattle.model.proofs.Kept.{sizes_new, names_new}
use Rattle.laws.proofs.Runs.{from_empty}
use Rattle.live.proofs.live.LiveHeap.new.Goals as goal

pub invariant_of-result : goal.invariant_of-result
invariant_of-result c = search (rules, sizes_new, names_new)

pub returns : goal.returns
returns c =
    record { is_empty = cc; goes_with_the_model = λ calls. from_empty _ (cc) calls }
