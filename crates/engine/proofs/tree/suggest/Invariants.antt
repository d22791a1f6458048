use Rattle.std.proofs.Common.{◌≡◌, ◌<◌, length}
use Rattle.engine.specs.Waiting.{held}
use Rattle.engine.proofs.Trees.{Owed}
use Rattle.engine.proofs.tree.suggest.Given as goal

-- only node i may be unfair: it is owed the better of itself and the offer
abbrev pub invariant-loop-i : goal.invariant-loop-i
invariant-loop-i g l =
    let s = g.S.Scheme.model l.scheme in
    let law = g.met.S.Scheme.lawful l.scheme in
    record {
      below_the_rows : l.i < 1024;
      wide : length l.tree ≡ 1024;
      owed : Owed s law l.offer l.i (held l.rows l.tree);
    }

abbrev pub decreases-loop-i : goal.decreases-loop-i
decreases-loop-i g l = l.i
