-- A queue before and after a step of a grading.
use Rattle.std.specs.Prelude.{◌≡◌}
use Rattle.engine.specs.declared.queue.Queue.{Queue}

-- the queue is of the same scheme still, and in the same rows
pub record SameQueue {S G : Type 0} {t : _} (old new : Queue S G t) : Type 0 where
  pub scheme : new.scheme ≡ old.scheme
  pub rows : new.rows.ghost_name ≡ old.rows.ghost_name
