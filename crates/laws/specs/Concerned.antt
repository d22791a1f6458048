-- Which cells an explanation concerns, and which records are its steps, as relations on the rows of a
-- grading.
use Rattle.std.specs.Prelude.{◌≡◌, ℕ, ◌<◌, List, [], ◌∷◌, Some}
use Rattle.model.specs.declared.record.Record.{Record}
use Rattle.model.specs.declared.row.Row.{Row}
use Rattle.model.specs.Meaning.{Meaning, record_at}
use Rattle.model.specs.Settling.{Rows}
use Rattle.model.specs.Grading.{Settled}
use Rattle.model.specs.Explaining.{sources, Among}

-- the cells concerned are cell c itself and, repeatedly, the sources of the records that hold cells concerned
pub data Concerned {G : Type 0} (h : Meaning) (rows : Rows G) (c : ℕ) : ℕ → Type 0 where
  itself : Concerned h rows c c
  source : (a b : ℕ) (row : Row G) (rec : Record) → Concerned h rows c a → Settled rows a row
      → record_at h row.holder ≡ Some rec → Among b (sources rec) → Concerned h rows c b

-- the cells are settled, each in a later turn than those before it, and these are their holders
pub data HeldInTurn {G : Type 0} (rows : Rows G) : List ℕ → List ℕ → Type 0 where
  none : HeldInTurn rows [] []
  next : (c : ℕ) (row : Row G) (cells path : List ℕ) → Settled rows c row
      → ((b : ℕ) (y : Row G) → Among b cells → Settled rows b y → row.turn < y.turn)
      → HeldInTurn rows cells path → HeldInTurn rows (c ∷ cells) (row.holder ∷ path)

-- the path has one step for each cell concerned: their holders, in order of turn
pub record Steps {G : Type 0} (h : Meaning) (rows : Rows G) (c : ℕ) (path : List ℕ) : Type 0 where
  pub cells : List ℕ
  pub only : (b : ℕ) → Among b cells → Concerned h rows c b
  pub every : (b : ℕ) → Concerned h rows c b → Among b cells
  pub in_turn : HeldInTurn rows cells path
