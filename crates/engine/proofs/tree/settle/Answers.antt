use Rattle.std.proofs.Common.{refl, ◌∙◌, arith}
use Rattle.std.proofs.lemmas.List.{length-set}
use Rattle.engine.specs.Waiting.{held}
use Rattle.engine.proofs.Trees.{fair_top, sealed_below, rebuilt}
use Rattle.engine.proofs.tree.settle.Goals as goal

pub loop-i-init : goal.loop-i-init
loop-i-init g c =
    let s = g.S.Scheme.model c.args.scheme.now in
    record {
      below_the_rows = omega (arith, c.requires.within);
      wide = c.requires.ranks.wide;
      fair_but = sealed_below s c.args.rows.now _ c.args.tree.now c.args.offer
          c.args.turn (omega arith) c.requires.within refl c.requires.ranks;
    }

pub loop-i-preserved : goal.loop-i-preserved
loop-i-preserved g c =
    let s = g.S.Scheme.model c.args.scheme.now in
    let at = c.loop-i in
    record {
      below_the_rows = omega (arith, at.invariant.below_the_rows);
      wide = length-set at.tree at.i _ ∙ at.invariant.wide;
      fair_but = rebuilt s _ at.tree _ at.i c.node-left.result
          c.node-right.result c.better.result (omega arith) (omega arith)
          at.invariant.below_the_rows c.node-left.ensures c.node-right.ensures c.better.ensures
          refl at.invariant.fair_but;
    }

pub returns-clause-ranks : goal.returns-clause-ranks
returns-clause-ranks g c =
    let s = g.S.Scheme.model c.args.scheme.now in
    let at = c.loop-i in
    record {
      wide = at.invariant.wide;
      fair = fair_top s (held _ at.tree) at.i c.loop-i-test.false at.invariant.fair_but;
    }
