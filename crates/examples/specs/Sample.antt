-- The sample heap, built by calls, and a run on it that ends in a sweep.
use Rattle.std.specs.Prelude.{◌≡◌, ℕ, List, [], ◌∷◌, ◌++◌, replicate, Some, None}
use Rattle.model.specs.declared.record.Record.TheVariants.{Root, Link}
use Rattle.model.specs.declared.record.Strength.TheVariants.{Strong, Soft}
use Rattle.model.specs.Meaning.{Meaning, cell_at, record_at}
use Rattle.model.specs.Schemes.{Scheme, Lawful}
use Rattle.model.specs.Calls.{empty_heap}
use Rattle.schemes.specs.declared.depth.Depth.{Depth}
use Rattle.schemes.specs.Strength.{by_strength}
use Rattle.schemes.specs.Bytes.{by_bytes}
use Rattle.schemes.specs.Depth.{by_depth}
use Rattle.laws.specs.Reference.{a_number, a_strength, both, Call}
use Rattle.laws.specs.Reference.{put, root, link, tie, grade, why, sweep}
use Rattle.laws.specs.Runs.{refusal, after_call}

-- the heap after calls, one after another
abbrev pub after_calls : Meaning → List (Call List) → Meaning
after_calls h [] = h
after_calls h (call ∷ calls) = after_calls (after_call h call) calls

-- no call is refused
abbrev pub AllAccepted : Meaning → List (Call List) → Type 0
AllAccepted h [] = Unit {0}
AllAccepted h (call ∷ calls) = (refusal h call ≡ None) × AllAccepted (after_call h call) calls

-- a root holds cell 0, which holds cell 1; cells 2 and 3 hold each other, cell 3 being the value of an
-- ephemeron with table 1 and key 2
abbrev pub ring_calls : List (Call List)
ring_calls =
    put 0 10 ∷ put 1 20 ∷ put 2 5 ∷ put 3 8
    ∷ root 0 0 ∷ link 1 0 1 0 ∷ tie 2 1 2 3 ∷ link 4 3 2 0 ∷ []

abbrev pub ring_heap : Meaning
ring_heap = after_calls empty_heap ring_calls

-- .. and then cell 0 holds cell 2 by a weak link
abbrev pub sample_heap : Meaning
sample_heap = after_call ring_heap (link 3 0 2 2)

-- grades by depth as pairs of plain numbers
abbrev pub depth_of : ℕ × ℕ → Depth
depth_of p = record { depth = p.0; tie = p.1 }

abbrev pub pair_of : Depth → ℕ × ℕ
pair_of d = (d.depth, d.tie)

abbrev pub by_depth_pairs : Scheme (ℕ × ℕ)
by_depth_pairs = record {
  kind = λ a. by_depth.kind (depth_of a);
  rank = λ a b. by_depth.rank (depth_of a) (depth_of b);
  start = λ r n. pair_of (by_depth.start r n);
  along = λ r n a k. pair_of (by_depth.along r n (depth_of a) k);
  join = λ r n a b. pair_of (by_depth.join r n (depth_of a) (depth_of b));
}

-- the sample heap is built, graded under each scheme, a cell explained, and the heap swept at soft
abbrev pub sample_run : Lawful by_strength → Lawful by_bytes → Lawful by_depth_pairs → List (Call List)
sample_run s b d =
    ring_calls
    ++ (link 3 0 2 2
    ∷ grade a_strength by_strength s (replicate 1024 None)
    ∷ grade a_number by_bytes b (replicate 1024 None)
    ∷ grade (both a_number a_number) by_depth_pairs d (replicate 1024 None)
    ∷ why a_strength by_strength s 3 (replicate 1024 None) (replicate 4 0)
    ∷ sweep a_strength by_strength s Soft (replicate 1024 None) (replicate 1024 0) (replicate 4096 0)
    ∷ [])

-- the schemes are lawful, each call of the run is accepted, and the sweep keeps cells 0 and 1 with the
-- records between them and drops cells 2 and 3 with the records that name one
pub record ARunThatSweeps : Type 0 where
  pub strength_is_lawful : Lawful by_strength
  pub bytes_are_lawful : Lawful by_bytes
  pub depth_is_lawful : Lawful by_depth_pairs
  pub accepted : AllAccepted empty_heap (sample_run strength_is_lawful bytes_are_lawful depth_is_lawful)
  pub kept : let h = after_calls empty_heap (sample_run strength_is_lawful bytes_are_lawful depth_is_lawful) in
      (cell_at h 0 ≡ Some 10) × (cell_at h 1 ≡ Some 20)
      × (record_at h 0 ≡ Some (Root 0)) × (record_at h 1 ≡ Some (Link 0 1 Strong))
  pub dropped : let h = after_calls empty_heap (sample_run strength_is_lawful bytes_are_lawful depth_is_lawful) in
      (cell_at h 2 ≡ None) × (cell_at h 3 ≡ None)
      × (record_at h 2 ≡ None) × (record_at h 3 ≡ None) × (record_at h 4 ≡ None)
