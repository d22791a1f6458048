use Rattle.std.proofs.Common.{refl, add-one, arith}
use Rattle.std.proofs.lemmas.Bool.{ne_eqb, eq-eqb}
use Rattle.snapshot.proofs.Firsts.{begins, goes_past, first_at}
use Rattle.snapshot.proofs.Rows.{place_fault, place_holds, place_fails, places_by_row, places_end}
use Rattle.snapshot.proofs.header.Layout.check_places.Goals as goal

pub loop-pair-init : goal.loop-pair-init
loop-pair-init c = record { starts = refl; none_yet = begins _ }

pub returns-then-pair-end : goal.returns-then-pair-end
returns-then-pair-end c =
    let rs = c.rows.result in
    let k = c.loop-pair.pair-index in
    let bad = first_at (place_fault rs) k 4 _ c.loop-pair.invariant.none_yet
    (place_fails rs k _ c.loop-pair.invariant.starts c.if-pair-end.true) (omega arith) in
    rw (c.at.ensures, places_by_row c.args.self c.args.len, ← c.rows.ensures, bad)

pub loop-pair-preserved : goal.loop-pair-preserved
loop-pair-preserved c = record {
  starts = rw add-one c.end-end.ensures;
  none_yet = goes_past _ _ c.loop-pair.invariant.none_yet
      (place_holds c.rows.result c.loop-pair.pair-index _ c.loop-pair.invariant.starts c.if-pair-end.false);
}

pub returns-then-end-len : goal.returns-then-end-len
returns-then-end-len c =
    let at_end = places_end c.args.self c.args.len _ c.loop-pair.pair-index _ c.rows.ensures (omega arith)
    c.loop-pair.invariant.starts c.loop-pair.invariant.none_yet in
    rw (c.at-then-end-len.ensures, at_end, ne_eqb c.loop-pair.end c.args.len c.if-end-len.true)

pub returns : goal.returns
returns c =
    let at_end = places_end c.args.self c.args.len _ c.loop-pair.pair-index _ c.rows.ensures (omega arith)
    c.loop-pair.invariant.starts c.loop-pair.invariant.none_yet in
    rw (at_end, eq-eqb c.loop-pair.end c.args.len c.if-end-len.false)
