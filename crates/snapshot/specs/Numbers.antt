-- Numbers in a list of bytes: the low byte stands first.
use Rattle.std.specs.Prelude.{ℕ, ◌+◌, ◌*◌, List, slice_index}

unfoldable pub u16_at : List ℕ → ℕ → ℕ
u16_at bs i = slice_index bs i + 256 * slice_index bs (i + 1)

unfoldable pub u32_at : List ℕ → ℕ → ℕ
u32_at bs i = u16_at bs i + 65536 * u16_at bs (i + 2)
