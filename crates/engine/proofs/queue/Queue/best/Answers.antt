use Rattle.std.proofs.Common.{None, ◌∙◌, arith}
use Rattle.std.proofs.lemmas.List.{get_or_default}
use Rattle.engine.proofs.Within.{chosen_below}
use Rattle.engine.proofs.Trees.{top_chosen}
use Rattle.engine.proofs.queue.Queue.best.Goals as goal

pub returns : goal.returns
returns g c =
    let s = g.S.Scheme.model c.args.self.now.scheme.now in
    let law = g.met.S.Scheme.lawful c.args.self.now.scheme.now in
    let is = c.args.self.now in
    let best = get_or_default is.tree.now 1 c.index-self-1.result None (omega (arith, is.ranks.wide))
    ∙ top_chosen s law is.rows.now is.wide is.tree.now is.ranks in
    record { best = best; within = chosen_below s law is.rows.now is.wide _ best }
