use Rattle.snapshot.proofs.Found.{root_found}
use Rattle.snapshot.proofs.lookup.root_in.Goals as goal

pub returns : goal.returns
returns c = rw c.u16_at.ensures (root_found _ _ _ c.in_ok-root.ensures)
