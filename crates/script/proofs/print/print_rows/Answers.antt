use Rattle.std.proofs.Common.{◌+◌, ap, arith}
use Rattle.std.proofs.lemmas.Grind.{common_steps}
use Rattle.script.specs.Answers.{row_text_if, rows_text}
use Rattle.script.proofs.RowTexts.{rows_more, rows_split}
use Rattle.script.proofs.print.print_rows.Goals as goal
use Rattle.script.proofs.print.print_rows.Goals.{in-Some+in_ok-print_row, in_default}

pub loop-cell-init : goal.loop-cell-init
unfolding rows_text
loop-cell-init g c = grind (arith, common_steps)

pub loop-cell-preserved : goal.loop-cell-preserved
loop-cell-preserved g c =
    let i = c.loop-cell.cell in
    let more = rows_more g.G.Shown.text c.args.rows.now i c.index-rows-cell.result
    c.loop-cell-test.true c.index-rows-cell.is in
    elim c.match-row.branch [
      | in-Some+in_ok-print_row w ↦
          let e = ap (row_text_if g.G.Shown.text i) w.in-Some.is in
          grind (arith, common_steps, more, e)
      | in_default w ↦
          let e = ap (row_text_if g.G.Shown.text i) w.in_default.is in
          grind (arith, common_steps, more, e)
    ]

pub returns-in_err-print_row : goal.returns-in_err-print_row
returns-in_err-print_row g c =
    let i = c.loop-cell.cell in
    let more = rows_more g.G.Shown.text c.args.rows.now i c.index-rows-cell.result
    c.loop-cell-test.true c.index-rows-cell.is in
    let e = ap (row_text_if g.G.Shown.text i) c.in-Some.is in
    let all = rows_split g.G.Shown.text c.args.rows.now (i + 1) (omega arith) in
    grind (arith, common_steps, more, e, all)
