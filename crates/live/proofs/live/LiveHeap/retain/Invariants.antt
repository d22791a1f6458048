use Rattle.model.specs.Sweeping.{names_kept}
use Rattle.live.specs.Flagged.{flagged}
use Rattle.live.proofs.live.LiveHeap.retain.Given as goal

abbrev pub ghost-retain : goal.ghost-retain
ghost-retain a = λ _. names_kept (flagged a.keeps.0.now)

abbrev pub ghost-retain-2 : goal.ghost-retain-2
ghost-retain-2 a = λ c _. flagged a.keeps.0.now c
