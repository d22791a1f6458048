use Rattle.std.proofs.Common.{◌≡◌, ap, ◌∙◌, arith}
use Rattle.model.specs.Schemes.{Scheme}
use Rattle.engine.specs.Working.{Work, chosen, turned, turn_count}
use Rattle.engine.proofs.Same.{same_then}
use Rattle.engine.proofs.Loops.{start_run, turn_run, turn_stop, run_none}
use Rattle.engine.proofs.turns.take_turns.Goals as goal

pub loop-turn-init : goal.loop-turn-init
loop-turn-init g c =
    let s = g.S.Scheme.model c.args.queue.now.scheme.now in
    let h = g.H.Heap.meaning c.args.heap.now in
    let looked = c.weigh_roots-weighed in
    record {
      few = looked.ensures.small;
      same = looked.ensures.same;
      running = start_run s h 1024 1024 looked.result c.args.queue.now.rows.now looked.new.queue.rows.now
          c.requires looked.ensures.after looked.ensures.counted;
    }

pub loop-turn-preserved : goal.loop-turn-preserved
loop-turn-preserved g c =
    let s = g.S.Scheme.model c.args.queue.now.scheme.now in
    let h = g.H.Heap.meaning c.args.heap.now in
    let at = c.loop-turn in
    let rows = at.queue.rows.now in
    let took = c.take_turn in
    let same = ap (λ z. g.S.Scheme.model z.now) at.invariant.same.scheme in
    let after = took.ensures.after ∙ ap (λ (z : Scheme _). turned z h at.turn rows (chosen z rows)) same in
    let counted = took.ensures.counted ∙ ap (λ (z : Scheme _). turn_count z h at.turn rows (chosen z rows)) same in
    record {
      few = omega (arith, c.in-Some.ensures.small, at.invariant.few);
      same = same_then at.invariant.same took.ensures.same;
      running = turn_run s h rows took.new.queue.rows.now at.turn at.weighed c.in-Some.count 1024
          took.result _ c.loop-turn-test.true
          after counted c.in-Some.is at.invariant.running;
    }

pub returns-in_default : goal.returns-in_default
returns-in_default g c =
    let s = g.S.Scheme.model c.args.queue.now.scheme.now in
    let h = g.H.Heap.meaning c.args.heap.now in
    let at = c.loop-turn in
    let rows = at.queue.rows.now in
    let took = c.take_turn in
    let same = ap (λ z. g.S.Scheme.model z.now) at.invariant.same.scheme in
    let after = took.ensures.after ∙ ap (λ (z : Scheme _). turned z h at.turn rows (chosen z rows)) same in
    let counted = took.ensures.counted ∙ ap (λ (z : Scheme _). turn_count z h at.turn rows (chosen z rows)) same in
    let p = turn_stop s h rows took.new.queue.rows.now at.turn at.weighed _ took.result _
    after counted c.in_default.is at.invariant.running in
    record {
      after = p.0;
      turns = c.from.ensures ∙ p.1;
      counted = p.2;
      same = same_then at.invariant.same took.ensures.same;
    }

pub returns : goal.returns
returns g c =
    let s = g.S.Scheme.model c.args.queue.now.scheme.now in
    let h = g.H.Heap.meaning c.args.heap.now in
    let at = c.loop-turn in
    let p = run_none s h 1024 at.turn _ _ c.loop-turn-test.false at.invariant.running in
    let t : 1024 ≡ at.turn = omega arith in
    record {
      after = ap (λ (w : Work _). w.rows) p;
      turns = c.from-2.ensures ∙ t ∙ ap (λ (w : Work _). w.turn) p;
      counted = ap (λ (w : Work _). w.count) p;
      same = at.invariant.same;
    }
