-- What a heap means: the list of its cells and the list of its records.
use Rattle.std.specs.Prelude.{◌≡◌, ℕ, Bool, true, ◌&&◌, List, length, is_some, Some, None, Option, nat_le, slice_index_or}
use Rattle.model.specs.declared.record.Record.{Record}
use Rattle.model.specs.declared.record.Record.TheVariants.{Root, Link, Ephemeron}

-- A filled cell has a size in bytes; None stands for an empty cell or record.
pub record Meaning : Type 0 where
  pub cells : List (Option ℕ)
  pub records : List (Option Record)

abbrev pub heap_of : List (Option ℕ) → List (Option Record) → Meaning
heap_of cs rs = record { cells = cs; records = rs }

-- the two questions: what stands at a number, None where it is too large
abbrev pub cell_at : Meaning → ℕ → Option ℕ
cell_at h n = slice_index_or h.cells n None

abbrev pub record_at : Meaning → ℕ → Option Record
record_at h r = slice_index_or h.records r None

-- a filled cell has 1 to 1,048,576 bytes
abbrev pub size_fits : Option ℕ → Bool
size_fits None = true
size_fits (Some n) = nat_le 1 n && nat_le n 1048576

-- cell n of the list is filled
abbrev pub filled_in : List (Option ℕ) → ℕ → Bool
filled_in cs n = is_some (slice_index_or cs n None)

-- a filled record names only filled cells
abbrev pub names_filled : List (Option ℕ) → Option Record → Bool
names_filled cs None = true
names_filled cs (Some (Root t)) = filled_in cs t
names_filled cs (Some (Link s t k)) = filled_in cs s && filled_in cs t
names_filled cs (Some (Ephemeron a b v)) = filled_in cs a && (filled_in cs b && filled_in cs v)

-- every cell of the list
abbrev pub SizesFit : List (Option ℕ) → Type 0
SizesFit cs = (n : ℕ) → size_fits (slice_index_or cs n None) ≡ true

-- every record of the list
abbrev pub NamesFilled : List (Option ℕ) → List (Option Record) → Type 0
NamesFilled cs rs = (r : ℕ) → names_filled cs (slice_index_or rs r None) ≡ true

-- what holds of the meaning of every heap
pub record WellFormed (h : Meaning) : Type 0 where
  pub cell_count : length h.cells ≡ 1024
  pub record_count : length h.records ≡ 4096
  pub sizes_fit : SizesFit h.cells
  pub names_filled_cells : NamesFilled h.cells h.records
