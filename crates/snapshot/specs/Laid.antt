-- The heap that a file lays down: it has the cells and the records of the entries.
use Rattle.std.specs.Prelude.{◌≡◌, ℕ, ◌+◌, ◌*◌, List, map, length, Some, None, Option}
use Rattle.std.specs.List.{range_with_len}
use Rattle.std.proofs.lemmas.List.FromFn.{length-map-range_with_len}
use Rattle.model.specs.declared.fault.Fault.{Fault}
use Rattle.model.specs.declared.record.Record.{Record}
use Rattle.model.specs.declared.record.Record.TheVariants.{Root, Link, Ephemeron}
use Rattle.model.specs.Strengths.{strength_of}
use Rattle.model.specs.Meaning.{Meaning, heap_of}
use Rattle.model.specs.Faults.{first}
use Rattle.snapshot.specs.Numbers.{u32_at}
use Rattle.snapshot.specs.Sections.{field, found}
use Rattle.snapshot.specs.Header.{layout_of, section, header_fault}
use Rattle.snapshot.specs.Entries.{entries_fault}

-- what entry k says, where there is one
abbrev pub size_of : List ℕ → Option ℕ → Option ℕ
size_of cs None = None
size_of cs (Some k) = Some (u32_at cs (8 * k + 4))

abbrev pub root_of : List ℕ → Option ℕ → Option Record
root_of rs None = None
root_of rs (Some k) = Some (Root (field 4 rs k 2))

abbrev pub link_of : List ℕ → Option ℕ → Option Record
link_of ls None = None
link_of ls (Some k) = Some (Link (field 8 ls k 2) (field 8 ls k 4) (strength_of (field 8 ls k 6)))

abbrev pub ephemeron_of : List ℕ → Option ℕ → Option Record
ephemeron_of es None = None
ephemeron_of es (Some k) = Some (Ephemeron (field 8 es k 2) (field 8 es k 4) (field 8 es k 6))

-- cell n of the section, and record n of each of the three
abbrev pub cell_in : List ℕ → ℕ → Option ℕ
cell_in cs n = size_of cs (found 8 cs n)

abbrev pub root_in : List ℕ → ℕ → Option Record
root_in rs n = root_of rs (found 4 rs n)

abbrev pub link_in : List ℕ → ℕ → Option Record
link_in ls n = link_of ls (found 8 ls n)

abbrev pub ephemeron_in : List ℕ → ℕ → Option Record
ephemeron_in es n = ephemeron_of es (found 8 es n)

abbrev pub or_else : {A : Type 0} → Option A → Option A → Option A
or_else None b = b
or_else (Some a) b = Some a

-- a record stands in one of them
abbrev pub record_in : List ℕ → List ℕ → List ℕ → ℕ → Option Record
record_in rs ls es n = or_else (root_in rs n) (or_else (link_in ls n) (ephemeron_in es n))

-- the list of what stands at the numbers below n
unfoldable pub table : {A : Type 0} → ℕ → (ℕ → Option A) → List (Option A)
table n f = map f (range_with_len 0 n)

pub length-table : {A : Type 0} (n : ℕ) (f : ℕ → Option A) → length (table n f) ≡ n
unfolding table
length-table n f = length-map-range_with_len f 0 n

abbrev pub cell_list : List ℕ → List (Option ℕ)
cell_list cs = table 1024 (cell_in cs)

abbrev pub record_list : List ℕ → List ℕ → List ℕ → List (Option Record)
record_list rs ls es = table 4096 (record_in rs ls es)

abbrev pub laid : List ℕ → List ℕ → List ℕ → List ℕ → Meaning
laid cs rs ls es = heap_of (cell_list cs) (record_list rs ls es)

-- the heap of a file, by its four sections
abbrev pub laid_down : List ℕ → Meaning
laid_down bs = laid
    (section bs (layout_of bs).cells)
    (section bs (layout_of bs).roots)
    (section bs (layout_of bs).links)
    (section bs (layout_of bs).ephemerons)

-- the first fault of a file: of its head, then of its entries
abbrev pub file_fault : List ℕ → Option Fault
file_fault bs = first (header_fault bs) (entries_fault (layout_of bs)
    (section bs (layout_of bs).cells)
    (section bs (layout_of bs).roots)
    (section bs (layout_of bs).links)
    (section bs (layout_of bs).ephemerons))
