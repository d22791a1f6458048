use Rattle.snapshot.proofs.Found.{size_found}
use Rattle.snapshot.proofs.lookup.cell_in.Goals as goal

pub returns : goal.returns
returns c = rw c.u32_at.ensures (size_found _ _ _ c.in_ok-cell.ensures)
