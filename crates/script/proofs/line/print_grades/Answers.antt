use Rattle.std.proofs.Common.{ℕ, List, take, refl, subst}
use Rattle.text.specs.Writing.{Writes}
use Rattle.script.proofs.Gradings.{grading_printed}
use Rattle.script.proofs.line.print_grades.Goals as goal

pub returns-in-Ok : goal.returns-in-Ok
returns-in-Ok g c =
    let s = g.S.Scheme.model c.args.scheme.now in
    let law = g.met.S.Scheme.lawful c.args.scheme.now in
    let h = g.H.Heap.meaning c.args.heap.now in
    let wf = g.H.Heap.formed c.args.heap.now in
    let e = grading_printed g.S.Grade.Shown.text s law h wf c.args.rows.now c.grade.new.rows
    (take 1024 c.grade.new.rows) c.in-Ok.counts c.in-Ok.ensures.answers c.grade.ensures.fills refl in
    subst (λ (t : List ℕ). Writes c.print_graded.result c.args.out.now t c.print_graded.new.out) e
    c.print_graded.ensures
