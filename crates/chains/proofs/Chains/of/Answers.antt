use Rattle.chains.proofs.Linking.{linked_none}
use Rattle.chains.proofs.Chains.of.Goals as goal

pub loop-number-init : goal.loop-number-init
loop-number-init g c =
    linked_none (g.H.Heap.meaning c.args.heap.now) _ _ c.new-chains.ensures.firsts
    c.new-chains.ensures.nexts
