use Rattle.std.proofs.Common.{ℕ, List, length, ap, ◌∙◌}
use Rattle.model.specs.Sweeping.{over}
use Rattle.live.specs.Live.{meaning_of, formed_of}
use Rattle.sweep.specs.Listing.{clears}
use Rattle.sweep.proofs.Passes.{passed}
use Rattle.sweep.proofs.lists.list_records.Goals as goal

pub returns-clause-counts : goal.returns-clause-counts
returns-clause-counts c =
    let heap = c.args.heap.now in
    let is = passed (clears c.args.kept.now) (meaning_of heap).records _ (formed_of heap).record_count in
    c.list.ensures.counts ∙ ap length is

pub returns-clause-lists : goal.returns-clause-lists
returns-clause-lists c =
    let heap = c.args.heap.now in
    let is = passed (clears c.args.kept.now) (meaning_of heap).records _ (formed_of heap).record_count in
    c.list.ensures.lists ∙ ap (λ (z : List ℕ). over z c.args.records.now) is
