-- The records of a heap are what it tells of the numbers below 4,096, one after another.
use Rattle.std.proofs.Common.{◌≡◌, map, None, count_by, refl, sym, ap, ◌∙◌}
use Rattle.std.specs.List.{range_with_len}
use Rattle.std.proofs.lemmas.List.FromFn.{fill_by_all}
use Rattle.model.specs.Meaning.{record_at}
use Rattle.naive.specs.Resting.{ready_by}
use Rattle.naive.proofs.count.counts.Goals as goal

pub returns-clause-weighed : goal.returns-clause-weighed
returns-clause-weighed g c =
    let h = g.H.Heap.meaning c.args.heap.now in
    let told : h.records ≡ map (record_at h) (range_with_len 0 4096) =
    fill_by_all (record_at h) h.records 4096 None (g.H.Heap.formed c.args.heap.now).record_count (λ k l. refl) in
    c.count_ready.ensures ∙ ap (count_by (ready_by c.args.grades.now)) (sym told)
