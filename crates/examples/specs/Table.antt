-- Examples of the rules, each named by what it shows.
use Rattle.std.specs.Prelude.{◌≡◌, ℕ, [], ◌∷◌, Some, None, Option, slice_index_or}
use Rattle.model.specs.declared.record.Strength.{Strength}
use Rattle.model.specs.declared.record.Strength.TheVariants.{Weak}
use Rattle.model.specs.declared.row.Row.{Row}
use Rattle.model.specs.Meaning.{Meaning}
use Rattle.model.specs.Schemes.{Scheme}
use Rattle.model.specs.Settling.{graded, weighed}
use Rattle.model.specs.Calls.{empty_heap}
use Rattle.schemes.specs.Strength.{by_strength}
use Rattle.schemes.specs.Bytes.{by_bytes}
use Rattle.schemes.specs.Depth.{by_depth, at_depth}
use Rattle.laws.specs.Reference.{put, root, tie}
use Rattle.examples.specs.Sample.{after_calls, ring_heap, sample_heap}

-- what grading says of cell c: its row, or nothing
abbrev pub row_of : {G : Type 0} → Scheme G → Meaning → ℕ → Option (Row G)
row_of s h c = slice_index_or (graded s h).rows c None

-- no cell is settled and no record weighed
abbrev pub Nothing : {G : Type 0} → Scheme G → Meaning → Type 0
Nothing s h = ((graded s h).turn ≡ 0) × (weighed s h ≡ 0)

-- a cell of 10 bytes under a root, which is table and key of an ephemeron to a cell of 20 bytes
abbrev pub self_keyed : Meaning
self_keyed = after_calls empty_heap (put 0 10 ∷ put 1 20 ∷ root 0 0 ∷ tie 1 0 0 1 ∷ [])

pub record Examples : Type 0 where
  pub empty_heap_by_strength : Nothing by_strength empty_heap
  pub empty_heap_by_bytes : Nothing by_bytes empty_heap
  pub empty_heap_by_depth : Nothing by_depth empty_heap
  pub ring_leaves_its_key_ungraded : row_of by_strength ring_heap 2 ≡ None
  pub ring_leaves_its_value_ungraded : row_of by_strength ring_heap 3 ≡ None
  pub weak_key_makes_value_weak :
      row_of by_strength sample_heap 3 ≡ Some (record { grade = Weak; holder = 2; turn = 3 })
  pub table_and_key_both_weigh :
      row_of by_bytes sample_heap 3 ≡ Some (record { grade = 53; holder = 2; turn = 3 })
  pub value_is_deeper_than_both :
      row_of by_depth sample_heap 3 ≡ Some (record { grade = at_depth 2 2; holder = 2; turn = 3 })
  pub one_cell_as_table_and_key_weighs_twice :
      row_of by_bytes self_keyed 1 ≡ Some (record { grade = 40; holder = 1; turn = 1 })
  pub an_ephemeron_is_weighed_once : weighed by_bytes self_keyed ≡ 2
  pub bytes_reach_their_end : (r : ℕ) (k : Strength) → by_bytes.along r 5 4294967290 k ≡ 4294967295
  pub bytes_are_held_at_their_end : (r : ℕ) (k : Strength) → by_bytes.along r 6 4294967290 k ≡ 4294967295
  pub held_depth_holds_its_tie : (n : ℕ) (k : Strength)
      → by_depth.along 9 n (at_depth 65534 7) k ≡ at_depth 65535 65535
