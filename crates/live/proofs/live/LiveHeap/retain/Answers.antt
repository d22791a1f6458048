use Rattle.live.specs.Flagged.{flagged}
use Rattle.live.specs.Live.{meaning_of, formed_of}
use Rattle.live.proofs.Retained.{heap_left, formed_after}
use Rattle.live.proofs.live.LiveHeap.retain.Goals as goal

pub invariant_of-self : goal.invariant_of-self
invariant_of-self c =
    let h = c.args.self.now in
    let wf = formed_after (flagged c.args.kept.now) (meaning_of h) _ _ c.retain-2.ensures c.retain.ensures
    (formed_of h) in
    record { sizes = wf.sizes_fit; names = wf.names_filled_cells }

pub returns : goal.returns
returns c =
    heap_left (flagged c.args.kept.now) (meaning_of c.args.self.now) _ _ c.retain-2.ensures c.retain.ensures
