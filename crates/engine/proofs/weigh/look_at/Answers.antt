use Rattle.std.proofs.Common.{◌∙◌, ap, arith}
use Rattle.model.specs.Meaning.{record_at}
use Rattle.engine.proofs.Within.{names_within}
use Rattle.engine.proofs.weigh.look_at.Goals as goal

pub grade_from-requires : goal.grade_from-requires
grade_from-requires g c =
    let h = g.H.Heap.meaning c.args.heap.now in
    let wf = g.H.Heap.formed c.args.heap.now in
    let there = c.in-Some.ensures ∙ ap (record_at h) c.from.ensures in
    (names_within h wf c.args.number c.in-Some.record there).0

pub suggest-requires : goal.suggest-requires
suggest-requires g c =
    let h = g.H.Heap.meaning c.args.heap.now in
    let wf = g.H.Heap.formed c.args.heap.now in
    let there = c.in-Some.ensures ∙ ap (record_at h) c.from.ensures in
    let within = names_within h wf c.args.number c.in-Some.record there in
    omega (arith, c.target.ensures, within)
