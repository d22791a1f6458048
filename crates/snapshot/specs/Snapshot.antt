-- What an open snapshot means, and why that meaning is well-formed.
use Rattle.model.specs.Meaning.{Meaning, WellFormed}
use Rattle.snapshot.specs.declared.snapshot.Snapshot.{Snapshot}
use Rattle.snapshot.specs.Laid.{laid, cell_in, record_in, length-table}

abbrev pub meaning_of : Snapshot → Meaning
meaning_of s = laid s.cells.bytes.now s.roots.bytes.now s.links.bytes.now s.ephemerons.bytes.now

pub formed_of : (s : Snapshot) → WellFormed (meaning_of s)
formed_of s = record {
  cell_count = length-table 1024 (cell_in s.cells.bytes.now);
  record_count = length-table 4096
      (record_in s.roots.bytes.now s.links.bytes.now s.ephemerons.bytes.now);
  sizes_fit = s.sizes;
  names_filled_cells = s.names;
}
