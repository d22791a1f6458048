use Rattle.std.proofs.Common.{rules, true, false, ◌≡◌, set, None, ap, arith}
use Rattle.live.specs.declared.table.Table.{Table}
use Rattle.live.proofs.Retained.{empties, keeps, passes, all_done}
use Rattle.live.proofs.table.Table.retain.Goals as goal
use Rattle.live.proofs.table.Table.retain.Goals.{in-Some+then-not-keeps, in-Some+else-not-keeps, in_default}

pub loop-n-preserved : goal.loop-n-preserved
loop-n-preserved g c =
    let at = c.loop-n in
    let xs = at.self.slots in
    let ys = c.match-self-n.self.slots in
    let before = at.invariant in
    let count = at.self.count in
    elim c.match-self-n.branch [
      | in-Some+then-not-keeps w ↦
          let x = w.in-Some.x in
          let is : ys ≡ set xs at.n None = ap (λ (z : Table _ _). z.slots) w.self-is in
          let goes : g.keep at.n x ≡ false = search rules in
          empties g.keep xs _ at.n before ys _ (omega arith) x w.in-Some.is goes is
      | in-Some+else-not-keeps w ↦
          let x = w.in-Some.x in
          let is : ys ≡ xs = ap (λ (z : Table _ _). z.slots) w.self-is in
          let stays : g.keep at.n x ≡ true = search rules in
          keeps g.keep xs _ at.n before ys _ (omega arith) x w.in-Some.is stays is
      | in_default w ↦
          let is : ys ≡ xs = ap (λ (z : Table _ _). z.slots) w.self-is in
          passes g.keep xs _ at.n before ys _ (omega arith) w.in_default.is is
    ]

pub returns : goal.returns
returns g c =
    let count = c.loop-n.self.count in
    all_done g.keep _ _ c.loop-n.n c.loop-n.invariant (omega arith)
