use Rattle.std.proofs.Common.{ℕ, ◌+◌, ◌-◌, ◌/◌, ◌<◌, Some, sym, refl, ap, ◌∙◌, inl, inr, arith}
use Rattle.std.proofs.lemmas.Bool.{cases_lt}
use Rattle.snapshot.specs.Sections.{number, entries}
use Rattle.snapshot.proofs.Entry.{chunk_at, number_of}
use Rattle.snapshot.proofs.Halving.{rising_to, rising_past, which_at, which_none}
use Rattle.snapshot.proofs.sorted.SortedSection.find.Goals as goal

pub returns-then-here-n : goal.returns-then-here-n
returns-then-here-n g c =
    let section = c.args.self.now in
    let num : ℕ → ℕ = number g.row.WIDTH section.bytes.now in
    let count : ℕ = entries g.row.WIDTH section.bytes.now in
    let m : ℕ = c.loop-low.low + (c.loop-low.high - c.loop-low.low) / 2 in
    let front = c.as_chunks.ensures.front in
    let it = c.index-entries-middle in
    let within : m < count = omega arith in
    let chunk = rw front at it.is in
    let here = number_of g.row.WIDTH count m section.bytes.now it.result it.result section.numbered within chunk in
    let is = which_at num c.args.n count m within (sym here ∙ (sym c.number-here.ensures ∙ c.if-here-n.true))
    (λ j a b. omega (arith, rising_past num count section.sorted m j a b)) in
    rw is (ap Some (chunk ∙ chunk_at g.row.WIDTH count m section.bytes.now it.result within))

pub loop-low-preserved-then-here-n-2 : goal.loop-low-preserved-then-here-n-2
loop-low-preserved-then-here-n-2 g c =
    let section = c.args.self.now in
    let num : ℕ → ℕ = number g.row.WIDTH section.bytes.now in
    let count : ℕ = entries g.row.WIDTH section.bytes.now in
    let m : ℕ = c.loop-low.low + (c.loop-low.high - c.loop-low.low) / 2 in
    let front = c.as_chunks.ensures.front in
    let it = c.index-entries-middle in
    let within : m < count = omega arith in
    let chunk = rw front at it.is in
    let here = number_of g.row.WIDTH count m section.bytes.now it.result it.result section.numbered within chunk in (
      omega arith,
      (λ j l. omega (arith, rising_to num count section.sorted j m (omega arith) within)),
      c.loop-low.invariant.2,
    )

pub loop-low-preserved : goal.loop-low-preserved
loop-low-preserved g c =
    let section = c.args.self.now in
    let num : ℕ → ℕ = number g.row.WIDTH section.bytes.now in
    let count : ℕ = entries g.row.WIDTH section.bytes.now in
    let m : ℕ = c.loop-low.low + (c.loop-low.high - c.loop-low.low) / 2 in
    let front = c.as_chunks.ensures.front in
    let it = c.index-entries-middle in
    let within : m < count = omega arith in
    let chunk = rw front at it.is in
    let here = number_of g.row.WIDTH count m section.bytes.now it.result it.result section.numbered within chunk in (
      omega arith,
      c.loop-low.invariant.1,
      (λ j a b. omega (arith, rising_to num count section.sorted m j a b)),
    )

pub returns : goal.returns
returns g c =
    let section = c.args.self.now in
    let num : ℕ → ℕ = number g.row.WIDTH section.bytes.now in
    let count : ℕ = entries g.row.WIDTH section.bytes.now in
    let none = which_none num c.args.n count (λ j l e. elim (cases_lt j c.loop-low.low) [
      | inl p ↦ (let below = c.loop-low.invariant.1 j p in omega arith)
      | inr p ↦ (let above = c.loop-low.invariant.2 j (omega arith) l in omega arith)
    ]) in
    rw none refl
