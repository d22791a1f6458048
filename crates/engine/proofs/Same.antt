-- A queue stays itself through steps of a grading.
use Rattle.std.proofs.Common.{refl, ◌∙◌}
use Rattle.engine.specs.declared.queue.Queue.{Queue}
use Rattle.engine.specs.Queues.{SameQueue}

module _ {S G : Type 0} {t : _} where
  pub same_at_first : (a : Queue S G t) → SameQueue a a
  same_at_first a = record { scheme = refl; rows = refl }

  pub same_then : {a b c : Queue S G t} → SameQueue a b → SameQueue b c → SameQueue a c
  same_then p q = record { scheme = q.scheme ∙ p.scheme; rows = q.rows ∙ p.rows }
