-- How a saved heap is laid out. A file has 36 to 65,536 bytes. It opens with four lead
-- bytes. Behind them stand four pairs, each an offset in the file and a length, for the
-- sections of cells, roots, links and ephemerons. The first section starts at byte 36,
-- each other where the one before ends, and the last ends with the file.
use Rattle.std.specs.Prelude.{ℕ, ◌+◌, ◌%◌, Bool, ◌&&◌, List, [], ◌∷◌, length, take, drop, Option, ◌==◌, nat_le, slice_index}
use Rattle.model.specs.declared.fault.Fault.{Fault}
use Rattle.model.specs.declared.fault.Cause.TheVariants.{FileLength, LeadBytes, SectionPlace, SectionLength}
use Rattle.model.specs.Faults.{fault, unless, first}
use Rattle.snapshot.specs.declared.header.Pair.{Pair}
use Rattle.snapshot.specs.declared.header.Layout.{Layout}
use Rattle.snapshot.specs.Numbers.{u32_at}

abbrev pub pair_at : List ℕ → ℕ → Pair
pair_at bs i = record { offset = u32_at bs i; size = u32_at bs (i + 4) }

-- the pairs in what follows the lead bytes
abbrev pub pairs_of : List ℕ → Layout
pairs_of rest = record {
  cells = pair_at rest 0;
  roots = pair_at rest 8;
  links = pair_at rest 16;
  ephemerons = pair_at rest 24;
}

-- the pairs, each with the byte where it begins and with the width of its section's entries
abbrev pub rows_of : Layout → List (Pair × ℕ × ℕ)
rows_of l =
    (l.cells, 4, 8) ∷ (l.roots, 12, 4) ∷ (l.links, 20, 8) ∷ (l.ephemerons, 28, 8) ∷ []

abbrev pub layout_of : List ℕ → Layout
layout_of bs = pairs_of (drop 4 bs)

-- where a section ends: the sum is not cut to 32 bits
abbrev pub end : Pair → ℕ
end p = p.offset + p.size

abbrev pub file_length_fault : List ℕ → Option Fault
file_length_fault bs = unless (nat_le 36 (length bs) && nat_le (length bs) 65536) (fault FileLength 0)

abbrev pub lead : List ℕ → Bool
lead bs = slice_index bs 0 == 69 && (slice_index bs 1 == 72 && (slice_index bs 2 == 1 && slice_index bs 3 == 4))

-- the place is the byte where the pair begins
abbrev pub places_fault : Layout → ℕ → Option Fault
places_fault l n =
    first (unless (l.cells.offset == 36) (fault SectionPlace 4))
    (first (unless (l.roots.offset == end l.cells) (fault SectionPlace 12))
    (first (unless (l.links.offset == end l.roots) (fault SectionPlace 20))
    (unless (l.ephemerons.offset == end l.links && end l.ephemerons == n)
    (fault SectionPlace 28))))

-- a root has 4 bytes, any other entry 8
abbrev pub lengths_fault : Layout → Option Fault
lengths_fault l =
    first (unless (l.cells.size % 8 == 0) (fault SectionLength 4))
    (first (unless (l.roots.size % 4 == 0) (fault SectionLength 12))
    (first (unless (l.links.size % 8 == 0) (fault SectionLength 20))
    (unless (l.ephemerons.size % 8 == 0) (fault SectionLength 28))))

-- all pairs are judged by their places before any is by its length
abbrev pub pairs_fault : Layout → ℕ → Option Fault
pairs_fault l n = first (places_fault l n) (lengths_fault l)

abbrev pub header_fault : List ℕ → Option Fault
header_fault bs =
    first (file_length_fault bs)
    (first (unless (lead bs) (fault LeadBytes 0))
    (pairs_fault (layout_of bs) (length bs)))

-- the bytes of a section
abbrev pub section : List ℕ → Pair → List ℕ
section bs p = take p.size (drop p.offset bs)
