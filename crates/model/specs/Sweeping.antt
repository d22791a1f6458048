-- The sweep: cells that are not reached well enough are dropped, and the records that name them
-- cleared. First what it computes from the rows of a grading, then what that means.
use Rattle.std.specs.Prelude.{◌≡◌, ℕ, ◌+◌, ◌<◌, Bool, false, cond, not, ◌&&◌, ◌⊎◌, List, [], ◌∷◌, ◌++◌, map, length, drop, Some, None, Option, Result, nat_le, slice_index_or}
use Rattle.model.specs.declared.fault.Fault.{Fault}
use Rattle.model.specs.declared.fault.Cause.TheVariants.{CellsShort, RecordsShort}
use Rattle.model.specs.declared.record.Record.{Record}
use Rattle.model.specs.declared.record.Record.TheVariants.{Root, Link, Ephemeron}
use Rattle.model.specs.declared.row.Row.{Row}
use Rattle.model.specs.declared.row.Swept.{Swept}
use Rattle.model.specs.Faults.{fault, unless, first, answer, left}
use Rattle.model.specs.Meaning.{Meaning, heap_of, cell_at, record_at}
use Rattle.model.specs.Schemes.{Scheme, NoWorse, not_after}
use Rattle.model.specs.Settling.{Rows, graded}
use Rattle.model.specs.Grading.{rows_fault}
use Rattle.model.specs.Derivations.{Derivation, grade_of, Best}
use Rattle.model.specs.Explaining.{Among}

-- a row is within the limit where its grade is no worse; an absent one never is
abbrev pub within : {G : Type 0} → Scheme G → G → Option (Row G) → Bool
within s limit None = false
within s limit (Some row) = not_after (s.rank row.grade limit)

-- cell c is kept: it is settled with a grade no worse than the limit
abbrev pub kept : {G : Type 0} → Scheme G → G → Meaning → ℕ → Bool
kept s limit h c = within s limit (slice_index_or (graded s h).rows c None)

-- every cell that the record names is kept
abbrev pub names_kept : (ℕ → Bool) → Record → Bool
names_kept keep (Root t) = keep t
names_kept keep (Link a t k) = keep a && keep t
names_kept keep (Ephemeron a b v) = keep a && (keep b && keep v)

-- the cells from number c on, with those emptied that are not kept
unfoldable pub cells_kept : (ℕ → Bool) → ℕ → List (Option ℕ) → List (Option ℕ)
cells_kept keep c [] = []
cells_kept keep c (x ∷ xs) = cond (keep c) x None ∷ cells_kept keep (c + 1) xs

-- a record, unless it names a cell that is not kept
abbrev pub record_kept : (ℕ → Bool) → Option Record → Option Record
record_kept keep None = None
record_kept keep (Some rec) = cond (names_kept keep rec) (Some rec) None

-- the heap with every cell emptied that is not kept, and every record that names one
abbrev pub emptied : (ℕ → Bool) → Meaning → Meaning
emptied keep h = heap_of (cells_kept keep 0 h.cells) (map (record_kept keep) h.records)

-- the numbers, from i on and rising, of the filled places whose content is picked
unfoldable pub picked : {A : Type 0} → (ℕ → A → Bool) → ℕ → List (Option A) → List ℕ
picked pick i [] = []
picked pick i (None ∷ xs) = picked pick (i + 1) xs
picked pick i (Some x ∷ xs) = cond (pick i x) (i ∷ picked pick (i + 1) xs) (picked pick (i + 1) xs)

-- the filled cells that are not kept, and the records that name one
abbrev pub dropped_cells : (ℕ → Bool) → Meaning → List ℕ
dropped_cells keep h = picked (λ c size. not (keep c)) 0 h.cells

abbrev pub cleared_records : (ℕ → Bool) → Meaning → List ℕ
cleared_records keep h = picked (λ r rec. not (names_kept keep rec)) 0 h.records

-- the memory that a sweep wants: 1,024 rows, places for 1,024 cells and for 4,096 records
abbrev pub sweep_fault : {G : Type 0} → Rows G → List ℕ → List ℕ → Option Fault
sweep_fault rows cells records =
    first (rows_fault rows)
    (first (unless (nat_le 1024 (length cells)) (fault CellsShort 0))
    (unless (nat_le 4096 (length records)) (fault RecordsShort 0)))

-- xs at the front of a list, and behind it what the list held there
abbrev pub over : List ℕ → List ℕ → List ℕ
over xs old = xs ++ drop (length xs) old

-- what a sweep of heap h at a limit answers, and what it leaves: the heap, the rows and both lists
module _ {G : Type 0} (s : Scheme G) (h : Meaning) (limit : G) (rows : Rows G) (cells records : List ℕ) where
  abbrev pub sweep_answer : Result Swept Fault
  sweep_answer =
      answer (sweep_fault rows cells records)
      (record {
        cells = length (dropped_cells (kept s limit h) h);
        records = length (cleared_records (kept s limit h) h);
      })

  abbrev pub sweep_after : Meaning
  sweep_after = left (sweep_fault rows cells records) (emptied (kept s limit h) h) h

  abbrev pub rows_swept : Rows G
  rows_swept = left (sweep_fault rows cells records) ((graded s h).rows ++ drop 1024 rows) rows

  abbrev pub cells_swept : List ℕ
  cells_swept = left (sweep_fault rows cells records) (over (dropped_cells (kept s limit h) h) cells) cells

  abbrev pub records_swept : List ℕ
  records_swept =
      left (sweep_fault rows cells records) (over (cleared_records (kept s limit h) h) records) records

-- what that means: derivations alone decide

-- cell c has a derivation no worse than the limit
abbrev pub Held : {G : Type 0} → Scheme G → G → Meaning → ℕ → Type 0
Held s limit h c = (d : Derivation h c) × NoWorse s (grade_of s d) limit

-- a filled cell is dropped where it has none
pub record Dropped {G : Type 0} (s : Scheme G) (limit : G) (h : Meaning) (c : ℕ) : Type 0 where
  pub size : ℕ
  pub filled : cell_at h c ≡ Some size
  pub unheld : Held s limit h c → ⊥

-- the record names cell c
abbrev pub Names : Record → ℕ → Type 0
Names (Root t) c = c ≡ t
Names (Link a t k) c = (c ≡ a) ⊎ (c ≡ t)
Names (Ephemeron a b v) c = (c ≡ a) ⊎ ((c ≡ b) ⊎ (c ≡ v))

-- a record is cleared where it names a dropped cell
pub record Cleared {G : Type 0} (s : Scheme G) (limit : G) (h : Meaning) (r : ℕ) : Type 0 where
  pub content : Record
  pub filled : record_at h r ≡ Some content
  pub cell : ℕ
  pub names : Names content cell
  pub dropped : Dropped s limit h cell

-- held cells stay as they were and no other cell is filled; exactly the records that name a dropped
-- cell are cleared
pub record KeepsExactly {G : Type 0} (s : Scheme G) (limit : G) (before after : Meaning) : Type 0 where
  pub held_stay : (c : ℕ) → Held s limit before c → cell_at after c ≡ cell_at before c
  pub others_go : (c : ℕ) → (Held s limit before c → ⊥) → cell_at after c ≡ None
  pub named_go : (r : ℕ) → Cleared s limit before r → record_at after r ≡ None
  pub others_stay : (r : ℕ) → (Cleared s limit before r → ⊥) → record_at after r ≡ record_at before r

-- each held cell has the grade that it had
abbrev pub KeepsGrades : {G : Type 0} → Scheme G → G → Meaning → Meaning → Type 0
KeepsGrades {G} s limit before after =
    (c : ℕ) (g : G) → Held s limit before c → Best s before c g → Best s after c g

-- each number of the list is above those before it
abbrev pub Rising : List ℕ → Type 0
Rising [] = Unit {0}
Rising (x ∷ xs) = ((n : ℕ) → Among n xs → x < n) × Rising xs

-- the list names exactly the numbers of which P holds, rising
pub record Lists (P : ℕ → Type 0) (xs : List ℕ) : Type 0 where
  pub rising : Rising xs
  pub only : (n : ℕ) → Among n xs → P n
  pub every : (n : ℕ) → P n → Among n xs
