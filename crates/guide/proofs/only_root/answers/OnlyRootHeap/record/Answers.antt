use Rattle.std.proofs.Common.{◌∙◌}
use Rattle.model.specs.declared.record.Record.TheVariants.{Root}
use Rattle.guide.proofs.Alone.{first_alone}
use Rattle.guide.proofs.only_root.answers.OnlyRootHeap.record.Goals as goal

pub returns : goal.returns
returns c = c.then_some.ensures ∙ first_alone 4095 c.args.n (Root 0)
