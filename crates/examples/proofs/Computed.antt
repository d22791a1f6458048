-- The examples, computed.
use Rattle.std.proofs.Common.{refl, ap}
use Rattle.model.specs.Settling.{graded, settle, count_ready}
use Rattle.model.specs.Explaining.{in_order, cells_by_turn, explain, steps_of}
use Rattle.model.specs.Sweeping.{cells_kept, picked}
use Rattle.model.specs.Schemes.{Lawful}
use Rattle.schemes.specs.Lawful.{strength_lawful, bytes_lawful, depth_lawful}
use Rattle.examples.specs.Sample.{ARunThatSweeps, depth_of, pair_of, by_depth_pairs}
use Rattle.examples.specs.Table.{Examples}

pub examples : Examples
unfolding graded settle count_ready
examples = record {
  empty_heap_by_strength = (refl, refl);
  empty_heap_by_bytes = (refl, refl);
  empty_heap_by_depth = (refl, refl);
  ring_leaves_its_key_ungraded = refl;
  ring_leaves_its_value_ungraded = refl;
  weak_key_makes_value_weak = refl;
  table_and_key_both_weigh = refl;
  value_is_deeper_than_both = refl;
  one_cell_as_table_and_key_weighs_twice = refl;
  an_ephemeron_is_weighed_once = refl;
  bytes_reach_their_end = λ r k. refl;
  bytes_are_held_at_their_end = λ r k. refl;
  held_depth_holds_its_tie = λ n k. refl;
}

-- a pair of numbers and a depth are the same in other dress
depth_pairs_lawful : Lawful by_depth_pairs
depth_pairs_lawful = record {
  rank_exchanges = λ a b. depth_lawful.rank_exchanges (depth_of a) (depth_of b);
  same_is_equal = λ a b e. ap pair_of (depth_lawful.same_is_equal (depth_of a) (depth_of b) e);
  equal_is_same = λ a. depth_lawful.equal_is_same (depth_of a);
  no_worse_carries = λ a b c. depth_lawful.no_worse_carries (depth_of a) (depth_of b) (depth_of c);
  along_never_better = λ r n a. depth_lawful.along_never_better r n (depth_of a);
  join_never_better_than_table = λ r n a b. depth_lawful.join_never_better_than_table r n (depth_of a) (depth_of b);
  join_never_better_than_key = λ r n a b. depth_lawful.join_never_better_than_key r n (depth_of a) (depth_of b);
  along_keeps_order = λ r n a b. depth_lawful.along_keeps_order r n (depth_of a) (depth_of b);
  join_keeps_order_of_tables = λ r n a b c.
      depth_lawful.join_keeps_order_of_tables r n (depth_of a) (depth_of b) (depth_of c);
  join_keeps_order_of_keys = λ r n c a b.
      depth_lawful.join_keeps_order_of_keys r n (depth_of c) (depth_of a) (depth_of b);
  start_gives_grade = depth_lawful.start_gives_grade;
  along_gives_grade = λ r n a. depth_lawful.along_gives_grade r n (depth_of a);
  join_gives_grade = λ r n a b. depth_lawful.join_gives_grade r n (depth_of a) (depth_of b);
}

pub run_that_sweeps : ARunThatSweeps
unfolding graded settle count_ready in_order cells_by_turn explain steps_of cells_kept picked
run_that_sweeps = record {
  strength_is_lawful = strength_lawful;
  bytes_are_lawful = bytes_lawful;
  depth_is_lawful = depth_pairs_lawful;
  accepted = (refl, (refl, (refl, (refl, (refl, (refl, (refl, (refl, (refl, (refl, (refl, (refl, (refl, (refl, tt))))))))))))));
  kept = (refl, refl, refl, refl);
  dropped = (refl, refl, refl, refl, refl);
}
