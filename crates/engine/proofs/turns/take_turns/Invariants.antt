use Rattle.std.proofs.Common.{◌≡◌, ◌+◌, ◌-◌, ◌*◌, ◌≤◌}
use Rattle.engine.specs.Queues.{SameQueue}
use Rattle.engine.specs.Working.{run, all_turns}
use Rattle.engine.proofs.turns.take_turns.Given as goal

-- the turns that are left lead to the same end
abbrev pub invariant-loop-turn : goal.invariant-loop-turn
invariant-loop-turn g l =
    let s = g.S.Scheme.model l.fn.queue.scheme.now in
    let h = g.H.Heap.meaning l.heap in
    record {
      few : l.weighed ≤ 4096 * (l.turn + 1);
      same : SameQueue l.fn.queue l.queue;
      running : run s h (1024 - l.turn) (record { rows = l.queue.rows.now; turn = l.turn; count = l.weighed })
          ≡ all_turns s h;
    }
