use Rattle.std.proofs.Common.{◌≡◌, ◌-◌, ◌∷◌, true, false, refl, replicate, length, get_or, reverse, ap, ◌∙◌, arith}
use Rattle.std.proofs.lemmas.List.{length-set, length-replicate, length-reverse}
use Rattle.model.specs.Explaining.{steps_of}
use Rattle.explain.proofs.Walks.{walk_first, walk_more, walk_end, found_more, marks_more, steps_more, marks_stand, steps_stand, refilled}
use Rattle.explain.proofs.walk.walk.Goals as goal

pub loop-place-init : goal.loop-place-init
loop-place-init g c =
    let h = g.H.Heap.meaning c.args.heap.now in
    let rows = c.args.graded.now.rows.now in
    let order = c.by_turn-order in
    let empty = c.new-steps.ensures in
    record {
      wide = length-set (replicate 1024 false) c.args.cell true ∙ length-replicate 1024 false;
      room = rw empty (omega arith);
      steps = rw empty (walk_first h rows order.result c.args.cell c.args.turn order.ensures.is);
    }

pub loop-place-preserved-then-marks-cell : goal.loop-place-preserved-then-marks-cell
loop-place-preserved-then-marks-cell g c =
    let h = g.H.Heap.meaning c.args.heap.now in
    let rows = c.args.graded.now.rows.now in
    let order = c.by_turn-order.result in
    let at = c.loop-place in
    let u = at.place - 1 in
    let cell = get_or order u 0 in
    let rest = reverse at.steps.items in
    let after = c.mark_sources.new.marks in
    let found = reverse c.push.new.self.items in
    let number = c.holder-number.result in
    let on = c.if-marks-cell.true in
    let is = c.holder-number.ensures in
    let pushed : found ≡ number ∷ rest =
    ap reverse c.push.ensures.items ∙ found_more at.steps.items number in
    let marks = marks_more h rows cell at.marks after found rest number on is c.mark_sources.ensures in
    let steps = steps_more h rows cell at.marks after found rest number on is pushed in
    let more = walk_more h rows order at.place u at.marks rest (omega arith) in
    let now = at.invariant.steps in
    record { wide = c.mark_sources.array_long; room = omega (arith, c.push.ensures.len, at.invariant.room); steps = cc }

pub loop-place-preserved : goal.loop-place-preserved
loop-place-preserved g c =
    let h = g.H.Heap.meaning c.args.heap.now in
    let rows = c.args.graded.now.rows.now in
    let order = c.by_turn-order.result in
    let at = c.loop-place in
    let u = at.place - 1 in
    let cell = get_or order u 0 in
    let rest = reverse at.steps.items in
    let off = c.if-marks-cell.false in
    let marks = marks_stand h rows cell at.marks at.marks rest rest off refl in
    let steps = steps_stand h rows cell at.marks at.marks rest rest off refl in
    let more = walk_more h rows order at.place u at.marks rest (omega arith) in
    let now = at.invariant.steps in
    record { wide = at.invariant.wide; room = omega arith; steps = cc }

pub returns : goal.returns
returns g c =
    let h = g.H.Heap.meaning c.args.heap.now in
    let rows = c.args.graded.now.rows.now in
    let at = c.loop-place in
    let found = at.steps.items in
    let turned : c.reverse.new.self ≡ reverse found =
    c.reverse.ensures.after ∙ ap reverse c.deref_mut.ensures.value in
    refilled found c.reverse.new.self (ap length turned ∙ length-reverse found) ∙ turned
    ∙ walk_end h rows c.by_turn-order.result at.place at.marks (reverse found)
    (steps_of h rows c.args.cell c.args.turn) (omega arith) at.invariant.steps
