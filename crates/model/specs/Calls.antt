-- The calls that edit a heap: which fault each finds first, and what it leaves.
-- A call judges its arguments from the left, and at one argument the cause of
-- smaller number first.
use Rattle.std.specs.Prelude.{ℕ, not, ◌&&◌, replicate, is_some, Some, None, Option, nat_le, nat_lt, slice_set}
use Rattle.model.specs.declared.fault.Fault.{Fault}
use Rattle.model.specs.declared.fault.Cause.TheVariants.{CellNumber, CellFilled, CellSize, CellEmpty}
use Rattle.model.specs.declared.fault.Cause.TheVariants.{RecordNumber, RecordFilled, RecordEmpty, StrengthNumber}
use Rattle.model.specs.declared.record.Record.{Record}
use Rattle.model.specs.declared.record.Record.TheVariants.{Root, Link, Ephemeron}
use Rattle.model.specs.Strengths.{strength_of}
use Rattle.model.specs.Meaning.{Meaning, heap_of, cell_at, record_at}
use Rattle.model.specs.Faults.{fault, unless, first, left}

-- a new heap
abbrev pub empty_heap : Meaning
empty_heap = heap_of (replicate 1024 None) (replicate 4096 None)

-- argument `place` is a cell number
abbrev pub cell_fault : ℕ → ℕ → Option Fault
cell_fault n place = unless (nat_lt n 1024) (fault CellNumber place)

-- .. and the cell is filled
abbrev pub filled_fault : Meaning → ℕ → ℕ → Option Fault
filled_fault h n place =
    first (cell_fault n place) (unless (is_some (cell_at h n)) (fault CellEmpty place))

-- .. or empty
abbrev pub empty_fault : Meaning → ℕ → ℕ → Option Fault
empty_fault h n place =
    first (cell_fault n place) (unless (not (is_some (cell_at h n))) (fault CellFilled place))

-- argument `place` is a size
abbrev pub size_fault : ℕ → ℕ → Option Fault
size_fault n place = unless (nat_le 1 n && nat_le n 1048576) (fault CellSize place)

-- argument `place` is a record number
abbrev pub record_fault : ℕ → ℕ → Option Fault
record_fault r place = unless (nat_lt r 4096) (fault RecordNumber place)

-- .. and the record is empty
abbrev pub free_fault : Meaning → ℕ → ℕ → Option Fault
free_fault h r place =
    first (record_fault r place) (unless (not (is_some (record_at h r))) (fault RecordFilled place))

-- .. or filled
abbrev pub held_fault : Meaning → ℕ → ℕ → Option Fault
held_fault h r place =
    first (record_fault r place) (unless (is_some (record_at h r)) (fault RecordEmpty place))

-- argument `place` is a strength: 0 strong, 1 soft, 2 weak, 3 phantom
abbrev pub strength_fault : ℕ → ℕ → Option Fault
strength_fault k place = unless (nat_lt k 4) (fault StrengthNumber place)

abbrev pub with_cell : Meaning → ℕ → Option ℕ → Meaning
with_cell h n o = heap_of (slice_set h.cells n o) h.records

abbrev pub with_record : Meaning → ℕ → Option Record → Meaning
with_record h r o = heap_of h.cells (slice_set h.records r o)

-- put fills a cell with a size
abbrev pub put_fault : Meaning → ℕ → ℕ → Option Fault
put_fault h n size = first (empty_fault h n 1) (size_fault size 2)

abbrev pub put_after : Meaning → ℕ → ℕ → Meaning
put_after h n size = left (put_fault h n size) (with_cell h n (Some size)) h

-- root fills a record with a root
abbrev pub root_fault : Meaning → ℕ → ℕ → Option Fault
root_fault h r target = first (free_fault h r 1) (filled_fault h target 2)

abbrev pub root_after : Meaning → ℕ → ℕ → Meaning
root_after h r target = left (root_fault h r target) (with_record h r (Some (Root target))) h

-- link fills a record with a link
abbrev pub link_fault : Meaning → ℕ → ℕ → ℕ → ℕ → Option Fault
link_fault h r source target k =
    first (free_fault h r 1)
    (first (filled_fault h source 2)
    (first (filled_fault h target 3)
    (strength_fault k 4)))

abbrev pub link_after : Meaning → ℕ → ℕ → ℕ → ℕ → Meaning
link_after h r source target k =
    left (link_fault h r source target k) (with_record h r (Some (Link source target (strength_of k)))) h

-- tie fills a record with an ephemeron
abbrev pub tie_fault : Meaning → ℕ → ℕ → ℕ → ℕ → Option Fault
tie_fault h r table key value =
    first (free_fault h r 1)
    (first (filled_fault h table 2)
    (first (filled_fault h key 3)
    (filled_fault h value 4)))

abbrev pub tie_after : Meaning → ℕ → ℕ → ℕ → ℕ → Meaning
tie_after h r table key value =
    left (tie_fault h r table key value) (with_record h r (Some (Ephemeron table key value))) h

-- erase empties a record
abbrev pub erase_fault : Meaning → ℕ → Option Fault
erase_fault h r = held_fault h r 1

abbrev pub erase_after : Meaning → ℕ → Meaning
erase_after h r = left (erase_fault h r) (with_record h r None) h
