use Rattle.std.proofs.Common.{◌≡◌, ◌+◌, ◌≤◌, ◌++◌, length, reverse}
use Rattle.model.specs.Explaining.{explain, steps_of}
use Rattle.explain.proofs.walk.walk.Given as goal

-- what is left to explain goes before the steps found, the last of which is the first of the path
abbrev pub invariant-loop-place : goal.invariant-loop-place
invariant-loop-place g l =
    let h = g.H.Heap.meaning l.heap in
    let rows = l.graded.rows.now in
    record {
      wide : length l.marks ≡ 1024;
      room : length l.steps.items + l.place ≤ 1024;
      steps : explain h rows l.order l.place l.marks ++ reverse l.steps.items ≡ steps_of h rows l.cell l.turn;
    }
