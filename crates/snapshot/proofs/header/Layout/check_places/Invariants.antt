use Rattle.std.proofs.Common.{◌≡◌, None}
use Rattle.snapshot.specs.Entries.{first_of}
use Rattle.snapshot.proofs.Rows.{start, place_fault}
use Rattle.snapshot.proofs.header.Layout.check_places.Given as goal

abbrev pub invariant-loop-pair : goal.invariant-loop-pair
invariant-loop-pair l = record {
  starts : l.end ≡ start l.pair-items l.pair-index;
  none_yet : first_of (place_fault l.pair-items) l.pair-index ≡ None;
}
