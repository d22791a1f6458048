use Rattle.std.proofs.Common.{sym, ◌∙◌, arith}
use Rattle.snapshot.proofs.Tables.{table_at, table_past}
use Rattle.snapshot.proofs.snapshot.answers.SnapshotHeap.record.Goals as goal

pub returns-then-n-from : goal.returns-then-n-from
returns-then-n-from c = c.record_in.ensures ∙ sym (table_at 4096 _ c.args.n (omega arith))

pub returns-else-n-from : goal.returns-else-n-from
returns-else-n-from c = sym (table_past 4096 _ c.args.n (omega arith))
