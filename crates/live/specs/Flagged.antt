-- Which cells stay when a heap is swept: there is a flag for each.
use Rattle.std.specs.Prelude.{ℕ, Bool, false, List, slice_index_or}

-- the flag of cell c is set; beyond the last cell none is
abbrev pub flagged : List Bool → ℕ → Bool
flagged flags c = slice_index_or flags c false
