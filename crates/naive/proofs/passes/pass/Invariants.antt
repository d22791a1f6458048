use Rattle.std.proofs.Common.{◌≡◌, ℕ, ◌<◌, false}
use Rattle.model.specs.Meaning.{record_at}
use Rattle.naive.specs.Resting.{moves}
use Rattle.naive.proofs.passes.pass.Given as goal

-- so far either a grade changed, or no record changes the grades
abbrev pub invariant-loop-number : goal.invariant-loop-number
invariant-loop-number g l =
    let s = g.S.Scheme.model l.scheme in
    let h = g.H.Heap.meaning l.heap in
    l.changed ≡ false → (r : ℕ) → r < l.number → moves s h l.grades r (record_at h r) ≡ false
