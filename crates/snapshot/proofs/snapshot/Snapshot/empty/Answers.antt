-- no entry has a fault where there is none
use Rattle.std.proofs.Common.{[]}
use Rattle.snapshot.proofs.Firsts.{begins}
use Rattle.snapshot.proofs.Shown.{sizes_shown, names_shown}
use Rattle.snapshot.proofs.Opened.{nothing_laid}
use Rattle.snapshot.proofs.snapshot.Snapshot.empty.Goals as goal

pub invariant_of-result-5 : goal.invariant_of-result-5
invariant_of-result-5 c = record {
  sizes = sizes_shown [] 0 (begins _);
  names = names_shown [] [] [] [] 0 0 0 (begins _) (begins _) (begins _);
}

pub returns : goal.returns
returns c = nothing_laid
