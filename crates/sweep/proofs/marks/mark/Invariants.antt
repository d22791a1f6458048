use Rattle.std.proofs.Common.{◌≡◌, map, length, take}
use Rattle.model.specs.Sweeping.{within}
use Rattle.sweep.proofs.marks.mark.Given as goal

-- the flags so far are those of the rows so far
abbrev pub invariant-loop-cell : goal.invariant-loop-cell
invariant-loop-cell g l =
    let s = g.S.Scheme.model l.scheme in
    (length l.kept ≡ 1024)
    × (take l.cell l.kept ≡ map (within s l.limit) (take l.cell l.rows))
