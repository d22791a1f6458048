-- What a pass over the cells or the records of a heap picks.
use Rattle.std.specs.Prelude.{ℕ, Bool, false, not, List, Some, None, Option}
use Rattle.model.specs.declared.record.Record.{Record}
use Rattle.model.specs.Sweeping.{names_kept}
use Rattle.live.specs.Flagged.{flagged}

-- place i is filled, and its content is picked
abbrev pub picks : {A : Type 0} → (ℕ → A → Bool) → ℕ → Option A → Bool
picks pick i None = false
picks pick i (Some x) = pick i x

-- by these flags the cell goes
abbrev pub drops : List Bool → ℕ → ℕ → Bool
drops flags c size = not (flagged flags c)

-- .. and a record that names one
abbrev pub clears : List Bool → ℕ → Record → Bool
clears flags r rec = not (names_kept (flagged flags) rec)
