use Rattle.std.proofs.Common.{Some, ap, ◌∙◌}
use Rattle.model.specs.Schemes.{Scheme}
use Rattle.engine.specs.Working.{pass, tally}
use Rattle.engine.proofs.Same.{same_at_first, same_then}
use Rattle.engine.proofs.Loops.{turn_took, turn_idle}
use Rattle.engine.proofs.turns.take_turn.Goals as goal

pub returns-in_err-offer : goal.returns-in_err-offer
returns-in_err-offer g c =
    let s = g.S.Scheme.model c.args.queue.now.scheme.now in
    let h = g.H.Heap.meaning c.args.heap.now in
    let p = turn_idle s h c.args.queue.now.rows.now c.args.turn c.from_residual.result _
    c.in_err-offer.ensures.best c.from_residual.ensures in
    record {
      after = p.0;
      counted = p.1;
      small = rw c.from_residual.ensures tt;
      same = same_at_first c.args.queue.now;
    }

pub settle-requires : goal.settle-requires
settle-requires g c = c.in_ok-offer.ensures.within

pub wake-requires-clause-within : goal.wake-requires-clause-within
wake-requires-clause-within g c = c.in_ok-offer.ensures.within

pub returns : goal.returns
returns g c =
    let s = g.S.Scheme.model c.args.queue.now.scheme.now in
    let h = g.H.Heap.meaning c.args.heap.now in
    let o = c.in_ok-offer.offer in
    let settled = c.settle.new.self.rows.now in
    let woke = c.wake in
    let same = ap (λ z. g.S.Scheme.model z.now) c.settle.ensures.same.scheme in
    let after = woke.ensures.after ∙ ap (λ (z : Scheme _). pass z h (Some o.cell) 0 h.records settled) same in
    let counted = woke.ensures.counted ∙ ap (λ (z : Scheme _). tally z h (Some o.cell) 0 h.records settled) same in
    let p = turn_took s h c.args.queue.now.rows.now settled woke.new.queue.rows.now c.args.turn
    woke.result o _ c.in_ok-offer.ensures.best c.settle.ensures.after after counted in
    record {
      after = p.0;
      counted = p.1;
      small = woke.ensures.small;
      same = same_then c.settle.ensures.same woke.ensures.same;
    }
