use Rattle.std.proofs.Common.{take}
use Rattle.text.specs.Writing.{Wrote}
use Rattle.script.specs.Answers.{rows_text}
use Rattle.script.proofs.print.print_rows.Given as goal

abbrev pub invariant-loop-cell : goal.invariant-loop-cell
invariant-loop-cell g l = Wrote l.initial.out (rows_text g.G.Shown.text 0 (take l.cell l.rows))
    l.out
