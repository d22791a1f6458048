use Rattle.std.proofs.Common.{◌<◌, sym, arith}
use Rattle.engine.proofs.Front.{front_wide}
use Rattle.explain.proofs.Tells.{front_timely}
use Rattle.explain.proofs.Tells.{answers, fills, lists, unfolds, concerns}
use Rattle.explain.proofs.why.Goals as goal

pub slice_bounds-graded-end-2 : goal.slice_bounds-graded-end-2
slice_bounds-graded-end-2 g c =
    let s = g.S.Scheme.model c.args.scheme.now in
    let law = g.met.S.Scheme.lawful c.args.scheme.now in
    let h = g.H.Heap.meaning c.args.heap.now in
    let wf = g.H.Heap.formed c.args.heap.now in
    let is = c.grade.ensures.fills in
    sym (front_wide s law h wf c.args.rows.now c.grade.new.rows c.if-rows.false is)

pub invariant_of-graded : goal.invariant_of-graded
invariant_of-graded g c =
    let s = g.S.Scheme.model c.args.scheme.now in
    let law = g.met.S.Scheme.lawful c.args.scheme.now in
    let h = g.H.Heap.meaning c.args.heap.now in
    let wf = g.H.Heap.formed c.args.heap.now in
    let lent = c.args.rows.now in
    let after = c.grade.new.rows in
    let is = c.grade.ensures.fills in
    record {
      wide = front_wide s law h wf lent after c.if-rows.false is;
      timely = front_timely s law h wf lent after c.if-rows.false is;
    }

pub returns : goal.returns
returns g c =
    let s = g.S.Scheme.model c.args.scheme.now in
    let law = g.met.S.Scheme.lawful c.args.scheme.now in
    let h = g.H.Heap.meaning c.args.heap.now in
    let wf = g.H.Heap.formed c.args.heap.now in
    let lent = c.args.rows.now in
    let steps = c.args.steps.now in
    let after = c.grade.new.rows in
    let n = c.args.cell in
    let enough = c.if-rows.false in
    let small : n < 1024 = omega arith in
    let is = c.grade.ensures.fills in
    record {
      answers = answers s law h wf lent after enough is n small steps c.tell.result
          c.tell.ensures.answers;
      fills = fills s law h wf lent after enough is n small steps;
      lists = lists s law h wf lent after enough is n small steps c.tell.new.steps
          c.tell.ensures.lists;
      unfolds = unfolds s law h wf lent after enough is n small steps c.tell.new.steps
          c.tell.result c.tell.ensures.answers c.tell.ensures.lists;
      concerns = concerns s law h wf lent after enough is n small steps c.tell.new.steps
          c.tell.result c.tell.ensures.answers c.tell.ensures.lists;
    }
