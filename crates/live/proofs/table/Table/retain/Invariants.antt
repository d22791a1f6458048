use Rattle.std.proofs.Common.{◌≡◌, ◌++◌, take, drop}
use Rattle.live.specs.Retaining.{retained}
use Rattle.live.proofs.table.Table.retain.Given as goal

-- the places that are done go before what becomes of the others
abbrev pub invariant-loop-n : goal.invariant-loop-n
invariant-loop-n g l =
    take l.n l.self.slots ++ retained g.keep l.n (drop l.n l.self.slots)
    ≡ retained g.keep 0 l.fn.self.slots
