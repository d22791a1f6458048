use Rattle.examples.proofs.Computed.{examples}
use Rattle.examples.proofs.rules_in_examples.Goals as goal

pub returns : goal.returns
returns c = examples
