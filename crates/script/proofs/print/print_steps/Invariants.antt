use Rattle.std.proofs.Common.{take}
use Rattle.text.specs.Writing.{Wrote}
use Rattle.script.specs.Answers.{steps_text}
use Rattle.script.proofs.print.print_steps.Given as goal

abbrev pub invariant-loop-step : goal.invariant-loop-step
invariant-loop-step l = Wrote l.initial.out (steps_text (take l.step-index l.steps)) l.out
