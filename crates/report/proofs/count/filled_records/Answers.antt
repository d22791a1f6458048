use Rattle.std.proofs.Common.{refl, ◌∙◌}
use Rattle.model.specs.Meaning.{record_at}
use Rattle.report.proofs.Counting.{filled-told}
use Rattle.report.proofs.count.filled_records.Goals as goal

pub returns : goal.returns
returns g c =
    let h = g.H.Heap.meaning c.args.heap.now in
    c.count_records.ensures ∙ filled-told (record_at h) h.records _ (g.H.Heap.formed c.args.heap.now).record_count (λ k l. refl)
