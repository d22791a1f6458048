use Rattle.std.proofs.Common.{refl, ◌∙◌}
use Rattle.model.specs.Meaning.{cell_at}
use Rattle.report.proofs.Counting.{filled-told}
use Rattle.report.proofs.count.filled_cells.Goals as goal

pub returns : goal.returns
returns g c =
    let h = g.H.Heap.meaning c.args.heap.now in
    c.count_cells.ensures ∙ filled-told (cell_at h) h.cells _ (g.H.Heap.formed c.args.heap.now).cell_count (λ k l. refl)
