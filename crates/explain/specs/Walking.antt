-- What holds of the rows while they are walked.
use Rattle.std.specs.Prelude.{ℕ, ◌<◌, List, None, slice_index, slice_index_or}
use Rattle.model.specs.Settling.{Rows}
use Rattle.model.specs.Explaining.{holder_of}

-- every number of the list is a cell's
abbrev pub Cells : List ℕ → Type 0
Cells order = (t : ℕ) → slice_index order t < 1024

-- the record that holds cell c
abbrev pub holder_at : {G : Type 0} → Rows G → ℕ → ℕ
holder_at rows c = holder_of (slice_index_or rows c None)
