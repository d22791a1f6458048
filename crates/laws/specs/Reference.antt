-- The reference model of a live heap. It holds 1,024 cells and 4,096 records, all empty at first,
-- and is told of each call its arguments and the lengths of the memory handed in, but no answer.
-- What it finds and how it moves are relations over derivations.
use Rattle.std.specs.Prelude.{◌≡◌, ℕ, ◌<◌, ◌≤◌, ◌⊎◌, List, length, Some, None, Option, ◌≢◌, nat_le}
use Rattle.model.specs.declared.fault.Cause.{Cause}
use Rattle.model.specs.declared.fault.Cause.TheVariants.{RowsShort, CellsShort, RecordsShort, StepsShort, NotSettled}
use Rattle.model.specs.declared.fault.Fault.{Fault}
use Rattle.model.specs.declared.record.Record.{Record}
use Rattle.model.specs.declared.record.Record.TheVariants.{Root, Link, Ephemeron}
use Rattle.model.specs.declared.record.Strength.{Strength}
use Rattle.model.specs.declared.row.Row.{Row}
use Rattle.model.specs.Faults.{fault, unless, first}
use Rattle.model.specs.Meaning.{Meaning, cell_at, record_at}
use Rattle.model.specs.Schemes.{Scheme, Lawful}
use Rattle.model.specs.Strengths.{strength_of}
use Rattle.model.specs.Calls.{cell_fault, put_fault, root_fault, link_fault, tie_fault, erase_fault}
use Rattle.model.specs.Derivations.{Derivation}
use Rattle.model.specs.Sweeping.{KeepsExactly}
use Rattle.laws.specs.Order.{Explains}

-- The kinds of plain data that grades are made of. A clause can speak of every scheme whose grades
-- have one of these kinds, and so of lists of calls that mix them.
pub data Kind : Type 0 where
  a_number : Kind
  a_strength : Kind
  both : Kind → Kind → Kind
  either : Kind → Kind → Kind

abbrev pub Of : Kind → Type 0
Of a_number = ℕ
Of a_strength = Strength
Of (both a b) = Of a × Of b
Of (either a b) = Of a ⊎ Of b

-- A call with its arguments and the memory handed in: what it holds, or only how long it is.
-- Each grade, why and sweep has a lawful scheme of its own.
pub data Call (Memory : Type 0 → Type 0) : Type 0 where
  put : (cell size : ℕ) → Call Memory
  root : (number target : ℕ) → Call Memory
  link : (number source target strength : ℕ) → Call Memory
  tie : (number table key value : ℕ) → Call Memory
  erase : (number : ℕ) → Call Memory
  grade : (k : Kind) (s : Scheme (Of k)) → Lawful s → Memory (Option (Row (Of k))) → Call Memory
  why : (k : Kind) (s : Scheme (Of k)) → Lawful s → (cell : ℕ)
      → Memory (Option (Row (Of k))) → Memory ℕ → Call Memory
  sweep : (k : Kind) (s : Scheme (Of k)) → Lawful s → (limit : Of k)
      → Memory (Option (Row (Of k))) → Memory ℕ → Memory ℕ → Call Memory

abbrev pub Length : Type 0 → Type 0
Length A = ℕ

-- what the model is told of a call: of the memory, its length
abbrev pub told : Call List → Call Length
told (put cell size) = put cell size
told (root number target) = root number target
told (link number source target strength) = link number source target strength
told (tie number table key value) = tie number table key value
told (erase number) = erase number
told (grade k s law rows) = grade k s law (length rows)
told (why k s law cell rows steps) = why k s law cell (length rows) (length steps)
told (sweep k s law limit rows cells records) =
    sweep k s law limit (length rows) (length cells) (length records)

-- memory of which fewer places are there than wanted
abbrev pub lacking : ℕ → ℕ → Cause → Option Fault
lacking wanted there cause = unless (nat_le wanted there) (fault cause 0)

-- what the model finds of a why: too few rows, or a number that is no cell's; then a cell with no
-- derivation; then steps that outnumber their list; or no fault
pub data JudgesWhy {G : Type 0} (s : Scheme G) (m : Meaning) (c rows steps : ℕ) : Option Fault → Type 0 where
  at_once : (f : Fault) → first (lacking 1024 rows RowsShort) (cell_fault c 2) ≡ Some f
      → JudgesWhy s m c rows steps (Some f)
  underived : first (lacking 1024 rows RowsShort) (cell_fault c 2) ≡ None → (Derivation m c → ⊥)
      → JudgesWhy s m c rows steps (Some (fault NotSettled 2))
  crowded : (path : List ℕ) → first (lacking 1024 rows RowsShort) (cell_fault c 2) ≡ None
      → Explains s m c path → steps < length path
      → JudgesWhy s m c rows steps (Some (fault StepsShort 0))
  explained : (path : List ℕ) → first (lacking 1024 rows RowsShort) (cell_fault c 2) ≡ None
      → Explains s m c path → length path ≤ steps → JudgesWhy s m c rows steps None

-- what the model finds of a call: its first fault, or none
abbrev pub Judges : Meaning → Call Length → Option Fault → Type 0
Judges m (put cell size) f = f ≡ put_fault m cell size
Judges m (root number target) f = f ≡ root_fault m number target
Judges m (link number source target strength) f = f ≡ link_fault m number source target strength
Judges m (tie number table key value) f = f ≡ tie_fault m number table key value
Judges m (erase number) f = f ≡ erase_fault m number
Judges m (grade k s law rows) f = f ≡ lacking 1024 rows RowsShort
Judges m (why k s law cell rows steps) f = JudgesWhy s m cell rows steps f
Judges m (sweep k s law limit rows cells records) f =
    f ≡ first (lacking 1024 rows RowsShort)
    (first (lacking 1024 cells CellsShort) (lacking 4096 records RecordsShort))

-- both questions have the same answers, for every number
pub record Same (a b : Meaning) : Type 0 where
  pub cells : (n : ℕ) → cell_at a n ≡ cell_at b n
  pub records : (r : ℕ) → record_at a r ≡ record_at b r

-- cell c becomes x, and all else stays
pub record CellBecomes (c : ℕ) (x : Option ℕ) (before after : Meaning) : Type 0 where
  pub here : cell_at after c ≡ x
  pub elsewhere : (n : ℕ) → (n ≢ c) → cell_at after n ≡ cell_at before n
  pub records : (r : ℕ) → record_at after r ≡ record_at before r

-- record number r becomes x, and all else stays
pub record RecordBecomes (r : ℕ) (x : Option Record) (before after : Meaning) : Type 0 where
  pub here : record_at after r ≡ x
  pub elsewhere : (n : ℕ) → (n ≢ r) → record_at after n ≡ record_at before n
  pub cells : (c : ℕ) → cell_at after c ≡ cell_at before c

-- how the model moves: a call with a fault leaves it alone, as do grade and why; a sweep empties each
-- filled cell that has no derivation within the limit, and each record that names one
abbrev pub Moves : Call Length → Option Fault → Meaning → Meaning → Type 0
Moves call (Some f) before after = Same before after
Moves (put cell size) None before after = CellBecomes cell (Some size) before after
Moves (root number target) None before after = RecordBecomes number (Some (Root target)) before after
Moves (link number source target strength) None before after =
    RecordBecomes number (Some (Link source target (strength_of strength))) before after
Moves (tie number table key value) None before after =
    RecordBecomes number (Some (Ephemeron table key value)) before after
Moves (erase number) None before after = RecordBecomes number None before after
Moves (grade k s law rows) None before after = Same before after
Moves (why k s law cell rows steps) None before after = Same before after
Moves (sweep k s law limit rows cells records) None before after = KeepsExactly s limit before after

-- the model has 1,024 cells and 4,096 records
pub record Sized (m : Meaning) : Type 0 where
  pub cell_count : length m.cells ≡ 1024
  pub record_count : length m.records ≡ 4096

-- the model takes a call: it finds f, which may be no fault, and moves on
pub record Takes (call : Call Length) (f : Option Fault) (before after : Meaning) : Type 0 where
  pub judges : Judges before call f
  pub moves : Moves call f before after
  pub sized : Sized after
