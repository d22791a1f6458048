use Rattle.std.proofs.Common.{◌≡◌, None}
use Rattle.snapshot.specs.Entries.{first_of}
use Rattle.snapshot.proofs.Rows.{length_fault}
use Rattle.snapshot.proofs.header.Layout.check_lengths.Given as goal

abbrev pub invariant-loop-pair : goal.invariant-loop-pair
invariant-loop-pair l = first_of (length_fault l.pair-items) l.pair-index ≡ None
