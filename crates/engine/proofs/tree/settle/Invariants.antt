use Rattle.std.proofs.Common.{◌≡◌, ◌<◌, length}
use Rattle.engine.specs.Waiting.{held}
use Rattle.engine.proofs.Trees.{FairBut}
use Rattle.engine.proofs.tree.settle.Given as goal

-- only node i may be unfair
abbrev pub invariant-loop-i : goal.invariant-loop-i
invariant-loop-i g l = record {
  below_the_rows : l.i < 1024;
  wide : length l.tree ≡ 1024;
  fair_but : FairBut (g.S.Scheme.model l.scheme) l.i (held l.rows l.tree);
}

abbrev pub decreases-loop-i : goal.decreases-loop-i
decreases-loop-i g l = l.i
