use Rattle.script.specs.Held.{state_of}
use Rattle.script.proofs.Feeding.{answers_each_line}
use Rattle.script.proofs.script.Script.new.Goals as goal

pub returns-clause-answers_each_line : goal.returns-clause-answers_each_line
returns-clause-answers_each_line c =
    answers_each_line (state_of (record { heap = c.new.result; line = c.new-2.result })) c.new-2.ensures
