use Rattle.std.proofs.Common.{ℕ, ◌-◌, ◌<◌, ◌≤◌, length}
use Rattle.snapshot.specs.Sections.{number, entries}
use Rattle.snapshot.proofs.sorted.SortedSection.find.Given as goal

-- the number lies neither below low nor from high on
abbrev pub invariant-loop-low : goal.invariant-loop-low
invariant-loop-low g l =
    (l.high ≤ length l.entries)
    × ((j : ℕ) → j < l.low → number g.row.WIDTH l.self.bytes.now j < l.n)
    × ((j : ℕ) → l.high ≤ j → j < entries g.row.WIDTH l.self.bytes.now → l.n < number g.row.WIDTH l.self.bytes.now j)

abbrev pub decreases-loop-low : goal.decreases-loop-low
decreases-loop-low g l = l.high - l.low
