-- What a heap of one cell means, and why that meaning is well-formed.
use Rattle.std.specs.Prelude.{ℕ, cond, ◌&&◌, Some, None, Option, nat_le, refl}
use Rattle.model.specs.declared.record.Record.TheVariants.{Root}
use Rattle.model.specs.Meaning.{Meaning, WellFormed}
use Rattle.model.specs.Calls.{empty_heap, with_cell, with_record}
use Rattle.std.proofs.lemmas.Bool.{and_from, le-leb}
use Rattle.laws.proofs.Formed.{cell_formed, record_formed, empty_formed}
use Rattle.guide.specs.declared.only_root.OnlyRoot.{OnlyRoot}

-- cell 0 is filled, and record 0 is a root on it
abbrev pub one_cell : ℕ → Meaning
one_cell size = with_record (with_cell empty_heap 0 (Some size)) 0 (Some (Root 0))

abbrev pub meaning_of : OnlyRoot → Meaning
meaning_of h = one_cell h.size

-- the size of the cell of a heap that was made
abbrev pub size_in : Option OnlyRoot → Option ℕ
size_in None = None
size_in (Some h) = Some h.size

-- a size is 1 to 1,048,576
abbrev pub size_if : ℕ → Option ℕ
size_if n = cond (nat_le 1 n && nat_le n 1048576) (Some n) None

-- a fitting size in a cell, and a root on that cell, keep an empty heap well-formed
pub formed_of : (h : OnlyRoot) → WellFormed (meaning_of h)
formed_of h =
    let fits = and_from (nat_le 1 h.size) (nat_le h.size 1048576) (le-leb _ _ h.some) (le-leb _ _ h.fits) in
    record_formed (with_cell empty_heap 0 (Some h.size))
    (cell_formed empty_heap empty_formed 0 h.size (rw fits)) 0 (Some (Root 0)) refl
