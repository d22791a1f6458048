use Rattle.snapshot.proofs.Found.{ephemeron_found}
use Rattle.snapshot.proofs.lookup.ephemeron_in.Goals as goal

pub returns : goal.returns
returns c =
    rw (c.u16_at.ensures, c.u16_at-2.ensures, c.u16_at-3.ensures) (ephemeron_found _ _ _ c.in_ok-ephemeron.ensures)
