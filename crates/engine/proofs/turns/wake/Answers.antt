use Rattle.std.proofs.Common.{◌≡◌, ℕ, ◌+◌, ◌/◌, ◌<◌, ◌≤◌, true, cond, length, Some, sym, ap, ◌∙◌, arith}
use Rattle.model.specs.Schemes.{Scheme}
use Rattle.chains.proofs.Seeking.{owned, place_or_end, place_there, first_found, next_found}
use Rattle.engine.proofs.Same.{same_at_first, same_then}
use Rattle.engine.proofs.Loops.{count_up, up_to_one, pass_all, tally_turn, tally_all, rows_from, count_from, after_visit, was_ready}
use Rattle.engine.proofs.Waking.{later, to_first, to_next, next_rows}
use Rattle.engine.proofs.turns.wake.Goals as goal

pub loop-next-init : goal.loop-next-init
loop-next-init g c =
    let s = g.S.Scheme.model c.args.queue.now.scheme.now in
    let h = g.H.Heap.meaning c.args.heap.now in
    let w = (g.H.Heap.formed c.args.heap.now).record_count in
    let next = c.first_of-next.result in
    let f = first_found h c.args.cell c.args.chains.now c.requires.chained next c.requires.within
    c.first_of-next.ensures in
    let p = to_first s h c.args.cell (place_or_end next) c.args.queue.now.rows.now w f in
    record {
      there = λ p e. place_there next _ p c.first_of-next.ensures e;
      few = omega arith;
      own = f.own;
      same = same_at_first c.args.queue.now;
      passing = sym p.0;
      counting = omega (arith, p.1);
    }

-- a turn of the loop stands at a place of the cell
own_place : (g : _) (c : goal.After-after-next g)
    → owned (g.H.Heap.meaning c.args.heap.now) c.args.cell c.in-Some.place ≡ true
own_place g c =
    let at = c.loop-next in
    let e = ap place_or_end c.in-Some.is in
    let l = at.invariant.there c.in-Some.place c.in-Some.is in
    ap (owned (g.H.Heap.meaning c.args.heap.now) c.args.cell) (sym e) ∙ at.invariant.own (omega (arith, e, l))

pub loop-next-smaller : goal.loop-next-smaller
loop-next-smaller g c =
    let h = g.H.Heap.meaning c.args.heap.now in
    let p = c.in-Some.place in
    let l = c.loop-next.invariant.there p c.in-Some.is in
    let f = next_found h c.args.cell c.args.chains.now c.requires.chained p c.after-next.result l
    (own_place g c) c.after-next.ensures in
    omega (arith, f.low, f.high, ap place_or_end c.in-Some.is)

pub loop-next-preserved : goal.loop-next-preserved
loop-next-preserved g c =
    let s = g.S.Scheme.model c.args.queue.now.scheme.now in
    let h = g.H.Heap.meaning c.args.heap.now in
    let w = (g.H.Heap.formed c.args.heap.now).record_count in
    let cell = c.args.cell in
    let at = c.loop-next in
    let was = at.queue.rows.now in
    let p = c.in-Some.place in
    let e = ap place_or_end c.in-Some.is in
    let l = at.invariant.there p c.in-Some.is in
    let own = own_place g c in
    let passing = ap (λ (k : ℕ). rows_from s h (Some cell) (k / 2) was) (sym e) ∙ at.invariant.passing in
    let counting = ap (λ (k : ℕ). at.count + count_from s h (Some cell) (k / 2) was) (sym e)
    ∙ at.invariant.counting in
    let next = c.after-next.result in
    let q = place_or_end next in
    let looked = c.look_at in
    let rows = looked.new.queue.rows.now in
    let same = ap (λ z. g.S.Scheme.model z.now) at.invariant.same.scheme in
    let after = looked.ensures.after
    ∙ ap (λ (z : Scheme _). after_visit z h (Some cell) (p / 2) was) same in
    let ready = looked.ensures.counted
    ∙ ap (λ (z : Scheme _). was_ready z h (Some cell) (p / 2) was) same in
    let k = at.count + c.from-count.result in
    let counted : k ≡ at.count + cond looked.result 1 0 = count_up looked.result at.count c.from-count.result c.from-count.ensures in
    let f = next_found h cell c.args.chains.now c.requires.chained p next l own c.after-next.ensures in
    let on = later h cell p q l own f in
    let rest = to_next s h cell p q rows w l own f in
    let n : p / 2 < length h.records = omega (arith, w, l) in
    let t = tally_turn s h (Some cell) was rows (p / 2) at.count k _ looked.result n
    after ready counted counting in
    record {
      there = λ n e. place_there next _ n c.after-next.ensures e;
      few = omega (arith, on, e, up_to_one looked.result at.count k counted, at.invariant.few);
      own = f.own;
      same = same_then at.invariant.same looked.ensures.same;
      passing = next_rows s h cell p q was rows _ w l own f after passing;
      counting = omega (arith, t, rest.1);
    }

pub returns : goal.returns
returns g c =
    let s = g.S.Scheme.model c.args.queue.now.scheme.now in
    let h = g.H.Heap.meaning c.args.heap.now in
    let w = (g.H.Heap.formed c.args.heap.now).record_count in
    let at = c.loop-next in
    let rows = at.queue.rows.now in
    let place = place_or_end at.next in
    let end : place ≡ 8192 = ap place_or_end c.in_default.is in
    let l : length h.records ≤ place / 2 = omega (arith, w, end) in
    let e = pass_all s h (Some c.args.cell) rows (place / 2) l in
    let f = tally_all s h (Some c.args.cell) rows (place / 2) l in
    record {
      after = sym e ∙ at.invariant.passing;
      counted = omega (arith, f, at.invariant.counting);
      small = omega (arith, at.invariant.few, end);
      same = at.invariant.same;
    }
