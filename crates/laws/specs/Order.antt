-- In which order cells are settled, as a relation: what holds of the rows of a grading, without
-- the steps that make them. Exactly one table of rows has it.
use Rattle.std.specs.Prelude.{◌≡◌, ℕ, ◌<◌, ◌≤◌, List, length, Some}
use Rattle.model.specs.declared.record.Record.{Record}
use Rattle.model.specs.declared.row.Row.{Row}
use Rattle.model.specs.Meaning.{Meaning, cell_at, record_at}
use Rattle.model.specs.Schemes.{Scheme, NoWorse}
use Rattle.model.specs.Settling.{Rows, target, given}
use Rattle.model.specs.Grading.{Settled, SettledBefore, SourcesBefore, Numbered, AllBacked}
use Rattle.laws.specs.Concerned.{Steps}

-- every turn is below 1,024
abbrev pub Timely : {G : Type 0} → Rows G → Type 0
Timely {G} rows = (c : ℕ) (row : Row G) → Settled rows c row → row.turn < 1024

-- grade g for cell c by record r is taken before grade g' for cell c' by record r', or is the same:
-- by grade, then by cell, then by record
abbrev pub Precedes : {G : Type 0} → Scheme G → G → ℕ → ℕ → G → ℕ → ℕ → Type 0
Precedes s g c r g' c' r' = NoWorse s g g' × (g ≡ g' → (c ≤ c') × (c ≡ c' → r ≤ r'))

-- when the cell was settled, no other record that was ready, to a cell not yet settled, would have been
-- taken before its holder
abbrev pub Unbeaten : {G : Type 0} → Scheme G → Meaning → Rows G → ℕ → Row G → Type 0
Unbeaten {G} s h rows c row =
    (r : ℕ) (rec : Record) (n : ℕ) (g : G) → record_at h r ≡ Some rec
    → SourcesBefore rows row.turn rec → (SettledBefore rows row.turn (target rec) → ⊥)
    → cell_at h (target rec) ≡ Some n → given s rows n r rec ≡ Some g
    → Precedes s row.grade c row.holder g (target rec) r

-- there are 1,024 rows; they number their cells from turn 0 on; each is held by a record that was ready, and unbeaten;
-- and in the end no record is ready that reaches an unsettled cell
pub record InOrder {G : Type 0} (s : Scheme G) (h : Meaning) (rows : Rows G) (count : ℕ) : Type 0 where
  pub wide : length rows ≡ 1024
  pub numbered : Numbered rows count
  pub backed : AllBacked s h rows
  pub unbeaten : (c : ℕ) (row : Row G) → Settled rows c row → Unbeaten s h rows c row
  pub ended : (r : ℕ) (rec : Record) → record_at h r ≡ Some rec
      → SourcesBefore rows count rec → SettledBefore rows count (target rec)

-- no other table of rows is in order
abbrev pub OnlyInOrder : {G : Type 0} → Scheme G → Meaning → Rows G → Type 0
OnlyInOrder {G} s h rows = (other : Rows G) (count : ℕ) → InOrder s h other count → other ≡ rows

-- the path holds the steps of cell c: the holders of the cells concerned, in the order of settling
pub record Explains {G : Type 0} (s : Scheme G) (h : Meaning) (c : ℕ) (path : List ℕ) : Type 0 where
  pub rows : Rows G
  pub count : ℕ
  pub in_order : InOrder s h rows count
  pub row : Row G
  pub settled : Settled rows c row
  pub steps : Steps h rows c path
