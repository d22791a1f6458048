use Rattle.snapshot.proofs.Found.{link_found, strength_or_phantom}
use Rattle.snapshot.proofs.lookup.link_in.Goals as goal

pub returns : goal.returns
returns c =
    let strength = strength_or_phantom c.try_from.result c.from.result c.try_from.ensures in
    rw (c.u16_at-2.ensures, c.u16_at-3.ensures, c.unwrap_or-strength.ensures, strength, c.from.ensures, c.u16_at.ensures)
    (link_found _ _ _ c.in_ok-link.ensures)
