use Rattle.std.proofs.Common.{rules}
use Rattle.model.proofs.Kept.{names_with}
use Rattle.live.proofs.live.LiveHeap.tie.Goals as goal

pub invariant_of-self : goal.invariant_of-self
invariant_of-self c = search (rules, names_with)
