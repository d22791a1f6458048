-- The entries of a file, and the first fault among them.
-- A cell entry has 8 bytes: its number, a field that is 0, and a size of 32 bits.
-- A root entry has 4: its record number and its target.
-- A link entry has 8: its record number, source, target and strength.
-- An ephemeron entry has 8: its record number, table, key and value.
-- The entries are judged in file order. A fault's place is the entry's offset in the file.
use Rattle.std.specs.Prelude.{ℕ, zero, suc, ◌+◌, ◌*◌, Bool, true, not, ◌&&◌, List, Some, None, Option, ◌==◌, nat_lt}
use Rattle.model.specs.declared.fault.Fault.{Fault}
use Rattle.model.specs.declared.fault.Cause.TheVariants.{FieldRange, NumberOrder, RecordTwice, CellMissing}
use Rattle.model.specs.Faults.{fault, unless, first}
use Rattle.model.specs.Meaning.{size_fits}
use Rattle.snapshot.specs.declared.header.Layout.{Layout}
use Rattle.snapshot.specs.Numbers.{u32_at}
use Rattle.snapshot.specs.Sections.{field, number, entry, entries, rises, has}

-- within an entry: each field in its range, the number above the one before, the record
-- in no earlier section, and each named cell among the file's
abbrev pub judged : ℕ → Bool → Bool → Bool → Bool → Option Fault
judged place fits rising fresh present =
    first (unless fits (fault FieldRange place))
    (first (unless rising (fault NumberOrder place))
    (first (unless fresh (fault RecordTwice place))
    (unless present (fault CellMissing place))))

abbrev pub cell_fits : ℕ → ℕ → ℕ → Bool
cell_fits n z size = nat_lt n 1024 && (z == 0 && size_fits (Some size))

abbrev pub root_fits : ℕ → ℕ → Bool
root_fits r t = nat_lt r 4096 && nat_lt t 1024

abbrev pub link_fits : ℕ → ℕ → ℕ → ℕ → Bool
link_fits r s t k = nat_lt r 4096 && (nat_lt s 1024 && (nat_lt t 1024 && nat_lt k 4))

abbrev pub ephemeron_fits : ℕ → ℕ → ℕ → ℕ → Bool
ephemeron_fits r a b v = nat_lt r 4096 && (nat_lt a 1024 && (nat_lt b 1024 && nat_lt v 1024))

-- the fault of entry k, if any, in a section of entries of w bytes that starts at byte i of
-- the file, where the tests judge the bytes of an entry
abbrev pub entry_fault : (List ℕ → Bool) → (List ℕ → Bool) → (List ℕ → Bool) → ℕ → List ℕ → ℕ → ℕ → Option Fault
entry_fault fits fresh present w s i k =
    judged (i + w * k)
    (fits (entry w s k))
    (rises (number w s) k)
    (fresh (entry w s k))
    (present (entry w s k))

-- the same by kind
abbrev pub cell_entry_fault : List ℕ → ℕ → ℕ → Option Fault
cell_entry_fault cs i k =
    judged (i + 8 * k)
    (cell_fits (number 8 cs k) (field 8 cs k 2) (u32_at cs (8 * k + 4)))
    (rises (number 8 cs) k)
    true
    true

abbrev pub root_entry_fault : List ℕ → List ℕ → ℕ → ℕ → Option Fault
root_entry_fault cs rs i k =
    judged (i + 4 * k)
    (root_fits (number 4 rs k) (field 4 rs k 2))
    (rises (number 4 rs) k)
    true
    (has 8 cs (field 4 rs k 2))

abbrev pub link_entry_fault : List ℕ → List ℕ → List ℕ → ℕ → ℕ → Option Fault
link_entry_fault cs rs ls i k =
    judged (i + 8 * k)
    (link_fits (number 8 ls k) (field 8 ls k 2) (field 8 ls k 4) (field 8 ls k 6))
    (rises (number 8 ls) k)
    (not (has 4 rs (number 8 ls k)))
    (has 8 cs (field 8 ls k 2) && has 8 cs (field 8 ls k 4))

abbrev pub ephemeron_entry_fault : List ℕ → List ℕ → List ℕ → List ℕ → ℕ → ℕ → Option Fault
ephemeron_entry_fault cs rs ls es i k =
    judged (i + 8 * k)
    (ephemeron_fits (number 8 es k) (field 8 es k 2) (field 8 es k 4) (field 8 es k 6))
    (rises (number 8 es) k)
    (not (has 4 rs (number 8 es k)) && not (has 8 ls (number 8 es k)))
    (has 8 cs (field 8 es k 2) && (has 8 cs (field 8 es k 4) && has 8 cs (field 8 es k 6)))

-- the first fault among the first k entries
unfoldable pub first_of : (ℕ → Option Fault) → ℕ → Option Fault
first_of f zero = None
first_of f (suc k) = first (first_of f k) (f k)

abbrev pub cells_fault : List ℕ → ℕ → Option Fault
cells_fault cs i = first_of (cell_entry_fault cs i) (entries 8 cs)

abbrev pub roots_fault : List ℕ → List ℕ → ℕ → Option Fault
roots_fault cs rs i = first_of (root_entry_fault cs rs i) (entries 4 rs)

abbrev pub links_fault : List ℕ → List ℕ → List ℕ → ℕ → Option Fault
links_fault cs rs ls i = first_of (link_entry_fault cs rs ls i) (entries 8 ls)

abbrev pub ephemerons_fault : List ℕ → List ℕ → List ℕ → List ℕ → ℕ → Option Fault
ephemerons_fault cs rs ls es i = first_of (ephemeron_entry_fault cs rs ls es i) (entries 8 es)

-- the first fault of all entries of a file, by its sections
abbrev pub entries_fault : Layout → List ℕ → List ℕ → List ℕ → List ℕ → Option Fault
entries_fault l cs rs ls es =
    first (cells_fault cs l.cells.offset)
    (first (roots_fault cs rs l.roots.offset)
    (first (links_fault cs rs ls l.links.offset)
    (ephemerons_fault cs rs ls es l.ephemerons.offset)))
