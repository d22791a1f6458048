-- A section is a run of entries of one width. An entry has fields of 16 bits, the
-- first of them its number, and the numbers rise from entry to entry.
use Rattle.std.specs.Prelude.{ℕ, zero, suc, ◌+◌, ◌*◌, ◌/◌, ◌<◌, Bool, true, cond, List, length, take, drop, is_some, Some, None, Option, ◌==◌, nat_lt}
use Rattle.snapshot.specs.Numbers.{u16_at}

-- the field at byte f of entry k, where entries are w bytes wide
abbrev pub field : ℕ → List ℕ → ℕ → ℕ → ℕ
field w s k f = u16_at s (w * k + f)

abbrev pub number : ℕ → List ℕ → ℕ → ℕ
number w s k = field w s k 0

-- the bytes of entry k
abbrev pub entry : ℕ → List ℕ → ℕ → List ℕ
entry w s k = take w (drop (w * k) s)

-- how many entries there are
abbrev pub entries : ℕ → List ℕ → ℕ
entries w s = length s / w

-- entry k has a number above that of the entry before; the first has none before it
abbrev pub rises : (ℕ → ℕ) → ℕ → Bool
rises num zero = true
rises num (suc k) = nat_lt (num k) (num (suc k))

-- the first n entries do
abbrev pub Rising : (ℕ → ℕ) → ℕ → Type 0
Rising num n = (k : ℕ) → suc k < n → num k < num (suc k)

-- which of the first k entries has number n
unfoldable pub which : (ℕ → ℕ) → ℕ → ℕ → Option ℕ
which num zero n = None
which num (suc k) n = cond (num k == n) (Some k) (which num k n)

-- which entry of the section has it, and whether one does
abbrev pub found : ℕ → List ℕ → ℕ → Option ℕ
found w s n = which (number w s) (entries w s) n

abbrev pub has : ℕ → List ℕ → ℕ → Bool
has w s n = is_some (found w s n)

-- all entries' numbers rise
abbrev pub Sorted : ℕ → List ℕ → Type 0
Sorted w s = Rising (number w s) (entries w s)
