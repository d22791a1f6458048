use Rattle.std.proofs.Common.{◌≤◌, length, arith}
use Rattle.engine.proofs.Promise.{answers, fills, tells, numbered, worsens, backed, in_order, alone}
use Rattle.engine.proofs.grade.Goals as goal

pub returns : goal.returns
returns g c =
    let s = g.S.Scheme.model c.args.scheme.now in
    let law = g.met.S.Scheme.lawful c.args.scheme.now in
    let h = g.H.Heap.meaning c.args.heap.now in
    let wf = g.H.Heap.formed c.args.heap.now in
    let lent = c.args.rows.now in
    let done = c.settle_all in
    let enough : 1024 ≤ length lent = omega arith in
    record {
      answers = answers s law h wf lent done.new.rows enough done.ensures.after done.result
          done.ensures.turns done.ensures.counted;
      fills = fills s law h wf lent done.new.rows enough done.ensures.after;
      tells = λ n l _. tells s law h wf lent done.new.rows enough done.ensures.after n l;
      numbered = numbered s law h wf lent done.new.rows enough done.ensures.after
          done.result.settled done.ensures.turns;
      worsens = worsens s law h wf lent done.new.rows enough done.ensures.after;
      backed = backed s law h wf lent done.new.rows enough done.ensures.after;
      in_order = in_order s law h wf lent done.new.rows enough done.ensures.after
          done.result.settled done.ensures.turns;
      alone = alone s law h wf lent done.new.rows enough done.ensures.after;
    }
