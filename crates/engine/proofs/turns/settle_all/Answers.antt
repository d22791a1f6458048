use Rattle.std.proofs.Common.{refl}
use Rattle.engine.proofs.Trees.{ranks_none}
use Rattle.engine.proofs.turns.settle_all.Goals as goal

pub invariant_of-queue-clause-ranks : goal.invariant_of-queue-clause-ranks
invariant_of-queue-clause-ranks g c =
    ranks_none (g.S.Scheme.model c.args.scheme.now) c.clear.new.rows _ c.clear.ensures refl
