-- The three schemes are lawful: each law on its own is found by cases.
use Rattle.std.proofs.Common.{rules}
use Rattle.model.specs.Schemes.{Lawful}
use Rattle.schemes.specs.Strength.{by_strength}
use Rattle.schemes.specs.Bytes.{by_bytes}
use Rattle.schemes.specs.Depth.{by_depth}

pub strength_lawful : Lawful by_strength
strength_lawful = record {
  rank_exchanges = λ a b. search rules;
  same_is_equal = λ a b e. search rules;
  equal_is_same = λ a. search rules;
  no_worse_carries = λ a b c p q. search rules;
  along_never_better = λ r n a k p. search rules;
  join_never_better_than_table = λ r n a b p q. search rules;
  join_never_better_than_key = λ r n a b p q. search rules;
  along_keeps_order = λ r n a b k p q o. search rules;
  join_keeps_order_of_tables = λ r n a b c p q s o. search rules;
  join_keeps_order_of_keys = λ r n c a b p q s o. search rules;
  start_gives_grade = λ r n p q. search rules;
  along_gives_grade = λ r n a k p q s. search rules;
  join_gives_grade = λ r n a b p q s t. search rules;
}

pub bytes_lawful : Lawful by_bytes
bytes_lawful = record {
  rank_exchanges = λ a b. search rules;
  same_is_equal = λ a b e. search rules;
  equal_is_same = λ a. search rules;
  no_worse_carries = λ a b c p q. search rules;
  along_never_better = λ r n a k p. search rules;
  join_never_better_than_table = λ r n a b p q. search rules;
  join_never_better_than_key = λ r n a b p q. search rules;
  along_keeps_order = λ r n a b k p q o. search rules;
  join_keeps_order_of_tables = λ r n a b c p q s o. search rules;
  join_keeps_order_of_keys = λ r n c a b p q s o. search rules;
  start_gives_grade = λ r n p q. search rules;
  along_gives_grade = λ r n a k p q s. search rules;
  join_gives_grade = λ r n a b p q s t. search rules;
}

pub depth_lawful : Lawful by_depth
depth_lawful = record {
  rank_exchanges = λ a b. search rules;
  same_is_equal = λ a b e. search rules;
  equal_is_same = λ a. search rules;
  no_worse_carries = λ a b c p q. search rules;
  along_never_better = λ r n a k p. search rules;
  join_never_better_than_table = λ r n a b p q. search rules;
  join_never_better_than_key = λ r n a b p q. search rules;
  along_keeps_order = λ r n a b k p q o. search rules;
  join_keeps_order_of_tables = λ r n a b c p q s o. search rules;
  join_keeps_order_of_keys = λ r n c a b p q s o. search rules;
  start_gives_grade = λ r n p q. search rules;
  along_gives_grade = λ r n a k p q s. search rules;
  join_gives_grade = λ r n a b p q s t. search rules;
}
