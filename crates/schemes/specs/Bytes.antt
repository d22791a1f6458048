-- Grading by bytes: a cell's grade is the sum of the sizes on the way to it.
use Rattle.std.specs.Prelude.{ℕ, ◌+◌, min, Result, nat_le}
use Rattle.model.specs.declared.fault.Fault.{Fault}
use Rattle.model.specs.Schemes.{Scheme}
use Rattle.schemes.specs.Number.{by_number, limit_if}

-- the largest grade: a larger sum is held there
abbrev pub most_bytes : ℕ
most_bytes = 4294967295

-- an ephemeron's value has both its table and its key on the way to it
abbrev pub by_bytes : Scheme ℕ
by_bytes = record {
  kind = λ a. nat_le a most_bytes;
  rank = by_number;
  start = λ r n. n;
  along = λ r n a k. min (a + n) most_bytes;
  join = λ r n a b. min (a + b + n) most_bytes;
}

-- every number up to the largest grade is one
abbrev pub bytes_limit : ℕ → Result ℕ Fault
bytes_limit n = limit_if (nat_le n most_bytes) n
