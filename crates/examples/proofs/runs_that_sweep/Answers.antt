use Rattle.examples.proofs.Computed.{run_that_sweeps}
use Rattle.examples.proofs.runs_that_sweep.Goals as goal

pub returns : goal.returns
returns c = run_that_sweeps
