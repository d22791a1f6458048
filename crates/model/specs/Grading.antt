-- What grading answers and leaves, for every heap, scheme and lent table of rows.
use Rattle.std.specs.Prelude.{◌≡◌, ℕ, ◌<◌, ◌++◌, length, drop, Some, None, Option, Result, nat_le, slice_index_or}
use Rattle.model.specs.declared.fault.Fault.{Fault}
use Rattle.model.specs.declared.fault.Cause.TheVariants.{RowsShort}
use Rattle.model.specs.declared.row.Counts.{Counts}
use Rattle.model.specs.declared.row.Row.{Row}
use Rattle.model.specs.Faults.{fault, unless, answer, left}
use Rattle.model.specs.declared.record.Record.{Record}
use Rattle.model.specs.declared.record.Record.TheVariants.{Root, Link, Ephemeron}
use Rattle.model.specs.Meaning.{Meaning, cell_at, record_at}
use Rattle.model.specs.Schemes.{Scheme, NoWorse}
use Rattle.model.specs.Settling.{Rows, target, given, graded, weighed}
use Rattle.model.specs.Derivations.{Derivation, Best}

-- fewer than 1,024 rows are refused
abbrev pub rows_fault : {G : Type 0} → Rows G → Option Fault
rows_fault rows = unless (nat_le 1024 (length rows)) (fault RowsShort 0)

-- settled and weighed
abbrev pub grade_answer : {G : Type 0} → Scheme G → Meaning → Rows G → Result Counts Fault
grade_answer s h rows =
    answer (rows_fault rows) (record { settled = (graded s h).turn; weighed = weighed s h })

-- the first 1,024 rows are the rule's, the others stand
abbrev pub grade_after : {G : Type 0} → Scheme G → Meaning → Rows G → Rows G
grade_after s h rows = left (rows_fault rows) ((graded s h).rows ++ drop 1024 rows) rows

-- a row with a grade in it has that of a best derivation; an absent one has none
abbrev pub Tells : {G : Type 0} → Scheme G → Meaning → ℕ → Option (Row G) → Type 0
Tells s h c None = Derivation h c → ⊥
Tells s h c (Some row) = Best s h c row.grade

-- cell c is settled, with this row
abbrev pub Settled : {G : Type 0} → Rows G → ℕ → Row G → Type 0
Settled rows c row = slice_index_or rows c None ≡ Some row

-- turns number the settled cells from 0 up: no two cells have the same, and none is left out
pub record Numbered {G : Type 0} (rows : Rows G) (count : ℕ) : Type 0 where
  pub below : (c : ℕ) (row : Row G) → Settled rows c row → row.turn < count
  pub apart : (a b : ℕ) (x y : Row G) → Settled rows a x → Settled rows b y → x.turn ≡ y.turn → a ≡ b
  pub every : (t : ℕ) → t < count → (c : ℕ) × (row : Row G) × Settled rows c row × (row.turn ≡ t)

-- grades never get better as turns rise
abbrev pub Worsens : {G : Type 0} → Scheme G → Rows G → Type 0
Worsens {G} s rows = (a b : ℕ) (x y : Row G) → Settled rows a x → Settled rows b y → x.turn < y.turn →
    NoWorse s x.grade y.grade

-- cell a is settled, before turn t
abbrev pub SettledBefore : {G : Type 0} → Rows G → ℕ → ℕ → Type 0
SettledBefore {G} rows t a = (row : Row G) × Settled rows a row × (row.turn < t)

-- .. and so is each source of the record
abbrev pub SourcesBefore : {G : Type 0} → Rows G → ℕ → Record → Type 0
SourcesBefore rows t (Root v) = Unit {0}
SourcesBefore rows t (Link a v k) = SettledBefore rows t a
SourcesBefore rows t (Ephemeron a b v) = SettledBefore rows t a × SettledBefore rows t b

-- the row of cell c is what its holder gives: a filled record that reaches the cell, by
-- sources that were settled earlier
pub record Backed {G : Type 0} (s : Scheme G) (h : Meaning) (rows : Rows G)
    (c : ℕ) (row : Row G) : Type 0 where
  pub holding : Record
  pub size : ℕ
  pub is_record : record_at h row.holder ≡ Some holding
  pub reaches : target holding ≡ c
  pub is_size : cell_at h c ≡ Some size
  pub gives : given s rows size row.holder holding ≡ Some row.grade
  pub earlier : SourcesBefore rows row.turn holding

-- every settled cell is held so
abbrev pub AllBacked : {G : Type 0} → Scheme G → Meaning → Rows G → Type 0
AllBacked {G} s h rows = (c : ℕ) (row : Row G) → Settled rows c row → Backed s h rows c row
