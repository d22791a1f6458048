-- No two files save one heap.
use Rattle.std.specs.Prelude.{◌≡◌, ℕ, ◌<◌, List, None, slice_index}
use Rattle.snapshot.specs.Laid.{file_fault, laid_down}

-- a list of bytes
abbrev pub Bytes : List ℕ → Type 0
Bytes bs = (k : ℕ) → slice_index bs k < 256

-- a file without fault is the only one that lays down its heap
abbrev pub Alone : List ℕ → Type 0
Alone bs = file_fault bs ≡ None → (other : List ℕ) → Bytes other → file_fault other ≡ None →
    laid_down other ≡ laid_down bs → other ≡ bs
