use Rattle.std.proofs.Common.{sym, ◌∙◌, arith}
use Rattle.snapshot.proofs.Tables.{table_at, table_past}
use Rattle.snapshot.proofs.snapshot.answers.SnapshotHeap.cell.Goals as goal

pub returns-then-n-from : goal.returns-then-n-from
returns-then-n-from c = c.cell_in.ensures ∙ sym (table_at 1024 _ c.args.n (omega arith))

pub returns-else-n-from : goal.returns-else-n-from
returns-else-n-from c = sym (table_past 1024 _ c.args.n (omega arith))
