use Rattle.std.proofs.Common.{true, None, get_or, refl, ◌∙◌, arith, ◌<◌, length}
use Rattle.std.proofs.lemmas.List.{get_or_default, length-set}
use Rattle.engine.specs.Waiting.{held}
use Rattle.engine.proofs.Trees.{fair_top, enters, goes_on, goes_no_further, improves_is, improved_best}
use Rattle.engine.proofs.tree.suggest.Goals as goal

pub loop-i-init : goal.loop-i-init
loop-i-init g c =
    let s = g.S.Scheme.model c.args.scheme.now in
    let law = g.met.S.Scheme.lawful c.args.scheme.now in
    let o = c.args.offer in
    let rows = c.args.rows.now in
    let z = get_or rows o.cell None in
    let here : o.cell < length rows = omega (arith, c.requires.within) in
    let better = improves_is s o c.index-rows-cell.result z c.improves.result true
    (c.index-rows-cell.is ∙ get_or_default rows o.cell c.index-rows-cell.result None here) c.improves.ensures c.if-not-improves.false in
    record {
      below_the_rows = omega (arith, c.requires.within);
      wide = c.requires.ranks.wide;
      owed = enters s law rows _ c.args.tree.now o
          c.waiting_row.result (omega arith) c.requires.within c.requires.ranks c.waiting_row.ensures
          refl (improved_best s o z better);
    }

pub loop-i-preserved : goal.loop-i-preserved
loop-i-preserved g c =
    let s = g.S.Scheme.model c.args.scheme.now in
    let law = g.met.S.Scheme.lawful c.args.scheme.now in
    let at = c.loop-i in
    let there : at.i < length at.tree = omega (arith, at.invariant) in
    record {
      below_the_rows = omega (arith, at.invariant.below_the_rows);
      wide = length-set at.tree at.i _ ∙ at.invariant.wide;
      owed = goes_on s law _ at.tree at.i c.args.offer c.index-tree-i.result
          c.overtakes.result (omega arith) at.invariant.below_the_rows
          (c.index-tree-i.is ∙ get_or_default at.tree at.i c.index-tree-i.result None there) c.overtakes.ensures
          at.invariant.owed (omega arith) _ c.if-overtakes.true refl;
    }

pub returns-else-overtakes-clause-ranks : goal.returns-else-overtakes-clause-ranks
returns-else-overtakes-clause-ranks g c =
    let s = g.S.Scheme.model c.args.scheme.now in
    let law = g.met.S.Scheme.lawful c.args.scheme.now in
    let at = c.loop-i in
    let there : at.i < length at.tree = omega (arith, at.invariant) in
    goes_no_further s law _ at.tree at.i c.args.offer c.index-tree-i.result
    c.overtakes.result (omega arith) at.invariant.below_the_rows
    (c.index-tree-i.is ∙ get_or_default at.tree at.i c.index-tree-i.result None there) c.overtakes.ensures
    at.invariant.owed (omega arith) c.if-overtakes.false

pub returns-after-loop-i-clause-ranks : goal.returns-after-loop-i-clause-ranks
returns-after-loop-i-clause-ranks g c =
    let s = g.S.Scheme.model c.args.scheme.now in
    let at = c.loop-i in
    record {
      wide = at.invariant.wide;
      fair = fair_top s (held _ at.tree) at.i c.loop-i-test.false at.invariant.owed.fair;
    }
