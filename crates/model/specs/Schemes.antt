-- What a scheme of grades is, and the laws that make it lawful.
use Rattle.std.specs.Prelude.{◌≡◌, ℕ, ◌<◌, ◌≤◌, Bool, true, false}
use Rattle.std.specs.declared.cmp.Ordering.{Ordering}
use Rattle.std.specs.declared.cmp.Ordering.TheVariants.{Less, Equal, Greater}
use Rattle.model.specs.declared.record.Strength.{Strength}
use Rattle.model.specs.declared.scheme.Rank.{Rank}
use Rattle.model.specs.declared.scheme.Rank.TheVariants.{Before, Same, After}

-- `kind` says which values of G are grades, since numbers here have no upper end.
-- The first two arguments of start, along and join are the record's number and
-- the size of the cell that it reaches.
pub record Scheme (G : Type 0) : Type 0 where
  pub kind : G → Bool
  pub rank : G → G → Rank
  pub start : ℕ → ℕ → G
  pub along : ℕ → ℕ → G → Strength → G
  pub join : ℕ → ℕ → G → G → G

-- the smaller of two is the better
abbrev pub rank_of : Ordering → Rank
rank_of Less = Before
rank_of Equal = Same
rank_of Greater = After

abbrev pub exchanged : Rank → Rank
exchanged Before = After
exchanged Same = Same
exchanged After = Before

abbrev pub not_after : Rank → Bool
not_after Before = true
not_after Same = true
not_after After = false

-- a is better than b or equal to it
abbrev pub NoWorse : {G : Type 0} → Scheme G → G → G → Type 0
NoWorse s a b = not_after (s.rank a b) ≡ true

-- a is a grade
abbrev pub Grade : {G : Type 0} → Scheme G → G → Type 0
Grade s a = s.kind a ≡ true

-- The laws of rank hold of all values, the others of grades. The last three say
-- that a scheme gives grades, for a record's number and a cell's size.
pub record Lawful {G : Type 0} (s : Scheme G) : Type 0 where
  pub rank_exchanges : (a b : G) → s.rank b a ≡ exchanged (s.rank a b)
  pub same_is_equal : (a b : G) → s.rank a b ≡ Same → a ≡ b
  pub equal_is_same : (a : G) → s.rank a a ≡ Same
  pub no_worse_carries : (a b c : G) → NoWorse s a b → NoWorse s b c → NoWorse s a c
  pub along_never_better : (r n : ℕ) (a : G) (k : Strength) → Grade s a →
      NoWorse s a (s.along r n a k)
  pub join_never_better_than_table : (r n : ℕ) (a b : G) → Grade s a → Grade s b →
      NoWorse s a (s.join r n a b)
  pub join_never_better_than_key : (r n : ℕ) (a b : G) → Grade s a → Grade s b →
      NoWorse s b (s.join r n a b)
  pub along_keeps_order : (r n : ℕ) (a b : G) (k : Strength) → Grade s a → Grade s b →
      NoWorse s a b → NoWorse s (s.along r n a k) (s.along r n b k)
  pub join_keeps_order_of_tables : (r n : ℕ) (a b key : G) → Grade s a → Grade s b → Grade s key →
      NoWorse s a b → NoWorse s (s.join r n a key) (s.join r n b key)
  pub join_keeps_order_of_keys : (r n : ℕ) (table a b : G) → Grade s table → Grade s a → Grade s b →
      NoWorse s a b → NoWorse s (s.join r n table a) (s.join r n table b)
  pub start_gives_grade : (r n : ℕ) → r < 4096 → n ≤ 1048576 → Grade s (s.start r n)
  pub along_gives_grade : (r n : ℕ) (a : G) (k : Strength) → r < 4096 → n ≤ 1048576 → Grade s a →
      Grade s (s.along r n a k)
  pub join_gives_grade : (r n : ℕ) (a b : G) → r < 4096 → n ≤ 1048576 → Grade s a → Grade s b →
      Grade s (s.join r n a b)
