-- What a live heap means, and why that meaning is well-formed.
use Rattle.model.specs.Meaning.{Meaning, heap_of, WellFormed}
use Rattle.live.specs.declared.live.LiveHeap.{LiveHeap}

abbrev pub meaning_of : LiveHeap → Meaning
meaning_of h = heap_of h.cells.slots h.records.slots

-- the four facts that a live heap carries
pub formed_of : (h : LiveHeap) → WellFormed (meaning_of h)
formed_of h = record {
  cell_count = h.cells.count;
  record_count = h.records.count;
  sizes_fit = h.sizes;
  names_filled_cells = h.names;
}
