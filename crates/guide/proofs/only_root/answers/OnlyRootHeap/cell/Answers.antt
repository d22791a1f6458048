use Rattle.std.proofs.Common.{◌∙◌}
use Rattle.guide.proofs.Alone.{first_alone}
use Rattle.guide.proofs.only_root.answers.OnlyRootHeap.cell.Goals as goal

pub returns : goal.returns
returns c = c.then_some.ensures ∙ first_alone 1023 c.args.n c.args.self.now.size
