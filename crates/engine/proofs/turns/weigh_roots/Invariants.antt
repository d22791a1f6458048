use Rattle.std.proofs.Common.{◌≡◌, ◌+◌, ◌≤◌, None}
use Rattle.engine.specs.Queues.{SameQueue}
use Rattle.engine.proofs.Loops.{rows_from, count_from}
use Rattle.engine.proofs.turns.weigh_roots.Given as goal

-- the records that are left complete the pass and its count
abbrev pub invariant-loop-number : goal.invariant-loop-number
invariant-loop-number g l =
    let s = g.S.Scheme.model l.initial.queue.scheme.now in
    let h = g.H.Heap.meaning l.heap in
    let was = l.initial.queue in
    record {
      few : l.roots ≤ l.number;
      same : SameQueue l.initial.queue l.queue;
      passing : rows_from s h None l.number l.queue.rows.now ≡ rows_from s h None 0 was.rows.now;
      counting : l.roots + count_from s h None l.number l.queue.rows.now ≡ count_from s h None 0 was.rows.now;
    }
