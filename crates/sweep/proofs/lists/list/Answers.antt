use Rattle.std.proofs.Common.{◌≡◌, true, false, rules, arith}
use Rattle.sweep.proofs.Passes.{list_passed, list_noted}
use Rattle.sweep.proofs.lists.list.Goals as goal
use Rattle.sweep.proofs.lists.list.Goals.{then-goes, else-goes}

pub loop-number-preserved : goal.loop-number-preserved
loop-number-preserved g c =
    let at = c.loop-number in
    let i = at.number in
    let so_far = at.invariant in
    elim c.if-goes.branch [
      | then-goes w ↦
          let passes : g.test i ≡ true = search rules in
          rw (w.count-is, w.numbers-is) (list_noted g.test _ i at.count at.numbers so_far (omega arith) passes)
      | else-goes w ↦
          let fails : g.test i ≡ false = search rules in
          rw (w.count-is, w.numbers-is) (list_passed g.test _ i at.count at.numbers so_far fails)
    ]
