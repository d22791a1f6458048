use Rattle.std.proofs.Common.{◌≡◌, ℕ, ◌+◌, ◌-◌, ◌/◌, ◌<◌, ◌≤◌, true, Some}
use Rattle.chains.proofs.Seeking.{owned, place_or_end}
use Rattle.engine.specs.Queues.{SameQueue}
use Rattle.engine.proofs.Loops.{rows_from, count_from}
use Rattle.engine.proofs.turns.wake.Given as goal

-- the place is the cell's own, and the records from there on complete the pass and its count
abbrev pub invariant-loop-next : goal.invariant-loop-next
invariant-loop-next g l =
    let s = g.S.Scheme.model l.initial.queue.scheme.now in
    let h = g.H.Heap.meaning l.heap in
    let was = l.initial.queue in
    let place = place_or_end l.next in
    record {
      there : (p : ℕ) → l.next ≡ Some p → p < 8192;
      few : l.count ≤ place / 2;
      own : place < 8192 → owned h l.cell place ≡ true;
      same : SameQueue l.initial.queue l.queue;
      passing : rows_from s h (Some l.cell) (place / 2) l.queue.rows.now
          ≡ rows_from s h (Some l.cell) 0 was.rows.now;
      counting : l.count + count_from s h (Some l.cell) (place / 2) l.queue.rows.now
          ≡ count_from s h (Some l.cell) 0 was.rows.now;
    }

abbrev pub decreases-loop-next : goal.decreases-loop-next
decreases-loop-next g l = 8192 - place_or_end l.next
