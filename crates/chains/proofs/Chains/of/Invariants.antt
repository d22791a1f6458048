use Rattle.std.proofs.Common.{◌*◌}
use Rattle.chains.specs.Places.{Linked}
use Rattle.chains.proofs.Chains.of.Given as goal

abbrev pub invariant-loop-number : goal.invariant-loop-number
invariant-loop-number g l =
    Linked (g.H.Heap.meaning l.heap) (2 * l.number) l.chains.first l.chains.next
