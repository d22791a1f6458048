use Rattle.std.proofs.Common.{◌≡◌, ◌+◌, cond, None, sym, ap, ◌∙◌, arith}
use Rattle.model.specs.Schemes.{Scheme}
use Rattle.engine.proofs.Same.{same_then}
use Rattle.engine.proofs.Loops.{count_up, up_to_one, pass_more, pass_all, tally_turn, tally_all, after_visit, was_ready}
use Rattle.engine.proofs.turns.weigh_roots.Goals as goal

pub loop-number-preserved : goal.loop-number-preserved
loop-number-preserved g c =
    let s = g.S.Scheme.model c.args.queue.now.scheme.now in
    let h = g.H.Heap.meaning c.args.heap.now in
    let w = (g.H.Heap.formed c.args.heap.now).record_count in
    let at = c.loop-number in
    let rows = at.queue.rows.now in
    let looked = c.look_at in
    let is = looked.new.queue in
    let same = ap (λ z. g.S.Scheme.model z.now) at.invariant.same.scheme in
    let after = looked.ensures.after
    ∙ ap (λ (z : Scheme _). after_visit z h None at.number rows) same in
    let ready = looked.ensures.counted
    ∙ ap (λ (z : Scheme _). was_ready z h None at.number rows) same in
    let roots = at.roots + c.from-roots.result in
    let up : roots ≡ at.roots + cond looked.result 1 0 = count_up looked.result at.roots c.from-roots.result c.from-roots.ensures in
    let e = pass_more s h None rows at.number (omega arith) in
    record {
      few = omega (arith, up_to_one looked.result at.roots roots up, at.invariant.few);
      same = same_then at.invariant.same looked.ensures.same;
      passing = cc (after, at.invariant.passing);
      counting = tally_turn s h None rows is.rows.now at.number at.roots
          roots _ looked.result (omega arith)
          after ready up at.invariant.counting;
    }

pub returns : goal.returns
returns g c =
    let s = g.S.Scheme.model c.args.queue.now.scheme.now in
    let h = g.H.Heap.meaning c.args.heap.now in
    let w = (g.H.Heap.formed c.args.heap.now).record_count in
    let at = c.loop-number in
    let e = pass_all s h None at.queue.rows.now at.number (omega arith) in
    let f = tally_all s h None at.queue.rows.now at.number (omega arith) in
    record {
      after = sym e ∙ at.invariant.passing;
      counted = omega (arith, f, at.invariant.counting);
      small = omega (arith, at.invariant.few);
      same = at.invariant.same;
    }
