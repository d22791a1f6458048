use Rattle.std.proofs.Common.{arith, ◌+◌}
use Rattle.std.proofs.lemmas.Grind.{common_steps}
use Rattle.script.specs.Answers.{steps_text}
use Rattle.script.proofs.StepTexts.{steps_split, steps_more}
use Rattle.script.proofs.print.print_steps.Goals as goal

pub loop-step-init : goal.loop-step-init
unfolding steps_text
loop-step-init c = grind (arith, common_steps)

pub loop-step-preserved : goal.loop-step-preserved
loop-step-preserved c =
    let e = steps_more c.args.steps.now c.loop-step.step-index c.loop-step-test.true in
    grind (arith, common_steps, e)

pub returns-in_err-print_number : goal.returns-in_err-print_number
returns-in_err-print_number c =
    let e = steps_more c.args.steps.now c.loop-step.step-index c.loop-step-test.true in
    let f = steps_split c.args.steps.now (c.loop-step.step-index + 1) in
    grind (arith, common_steps, e, f)
