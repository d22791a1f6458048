-- Grading by depth: a cell's grade is how many links and ephemerons lead to it from
-- a root, and for a tie the number of the last record on that way.
use Rattle.std.specs.Prelude.{ℕ, ◌+◌, max, cond, ◌&&◌, Result, nat_le, nat_lt}
use Rattle.model.specs.declared.fault.Fault.{Fault}
use Rattle.model.specs.declared.scheme.Rank.{Rank}
use Rattle.model.specs.declared.scheme.Rank.TheVariants.{Before, Same, After}
use Rattle.model.specs.Schemes.{Scheme}
use Rattle.schemes.specs.declared.depth.Depth.{Depth}
use Rattle.schemes.specs.Number.{by_number, limit_if}

-- where depths end
abbrev pub deepest : ℕ
deepest = 65535

abbrev pub at_depth : ℕ → ℕ → Depth
at_depth d t = record { depth = d; tie = t }

-- what record r gives from a source at depth d: one deeper, or the end of the
-- depths, where all ties are one
abbrev pub below : ℕ → ℕ → Depth
below d r = cond (nat_lt (d + 1) deepest) (at_depth (d + 1) r) (at_depth deepest deepest)

-- a first rank, and a second where the first is the same
abbrev pub then_by : Rank → Rank → Rank
then_by Before k = Before
then_by Same k = k
then_by After k = After

-- the smaller depth is the better, and among equal depths the smaller tie
abbrev pub by_depth : Scheme Depth
by_depth = record {
  kind = λ a. nat_le a.depth deepest && nat_le a.tie deepest;
  rank = λ a b. then_by (by_number a.depth b.depth) (by_number a.tie b.tie);
  start = λ r n. at_depth 0 r;
  along = λ r n a k. below a.depth r;
  join = λ r n a b. below (max a.depth b.depth) r;
}

-- a limit takes in every cell at its depth
abbrev pub depth_limit : ℕ → Result Depth Fault
depth_limit n = limit_if (nat_le n deepest) (at_depth n deepest)
