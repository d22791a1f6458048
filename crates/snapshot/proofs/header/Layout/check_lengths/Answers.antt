use Rattle.std.proofs.Common.{◌≡◌, arith}
use Rattle.snapshot.proofs.Firsts.{begins, goes_past, first_at}
use Rattle.snapshot.proofs.Rows.{length_fault, length_holds, length_fails, lengths_by_row}
use Rattle.snapshot.proofs.header.Layout.check_lengths.Goals as goal

pub loop-pair-init : goal.loop-pair-init
loop-pair-init c = begins _

pub returns-then-pair-width-ne0 : goal.returns-then-pair-width-ne0
returns-then-pair-width-ne0 c =
    let rs = c.rows.result in
    let k = c.loop-pair.pair-index in
    let bad = first_at (length_fault rs) k 4 _ c.loop-pair.invariant
    (length_fails rs k c.if-pair-width-ne0.true) (omega arith) in
    rw (c.at.ensures, lengths_by_row c.args.self, ← c.rows.ensures, bad)

pub loop-pair-preserved : goal.loop-pair-preserved
loop-pair-preserved c =
    goes_past _ _ c.loop-pair.invariant
    (length_holds c.rows.result c.loop-pair.pair-index c.if-pair-width-ne0.false)

pub returns : goal.returns
returns c =
    let all : c.loop-pair.pair-index ≡ 4 = omega arith in
    rw (lengths_by_row c.args.self, ← c.rows.ensures, ← all, c.loop-pair.invariant)
