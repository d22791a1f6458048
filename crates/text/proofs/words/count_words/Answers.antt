-- Counting words: one more than the spaces.
use Rattle.std.proofs.Common.{arith}
use Rattle.text.proofs.Fronts.{count_on, count_off, count_none}
use Rattle.text.proofs.words.count_words.Goals as goal
use Rattle.text.proofs.words.count_words.Goals.{then-b-eq-SPACE, else-b-eq-SPACE}

pub loop-b-preserved : goal.loop-b-preserved
loop-b-preserved c =
    let bs = c.args.line.now in
    let i = c.loop-b.b-index in
    elim c.if-b-eq-SPACE.branch [
      | then-b-eq-SPACE w ↦
          (let e = count_on bs i c.loop-b-test.true w.if-b-eq-SPACE.true in
          (omega arith, omega arith))
      | else-b-eq-SPACE w ↦
          (let e = count_off bs i c.loop-b-test.true w.if-b-eq-SPACE.false in
          (omega arith, omega arith))
    ]

pub returns : goal.returns
returns c = omega (arith, count_none c.args.line.now c.loop-b.b-index c.loop-b-test.false)
