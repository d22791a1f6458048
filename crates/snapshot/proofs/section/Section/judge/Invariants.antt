use Rattle.std.proofs.Common.{◌≡◌, None}
use Rattle.snapshot.specs.Entries.{first_of, entry_fault}
use Rattle.snapshot.proofs.section.Section.judge.Given as goal

abbrev pub invariant-loop-i : goal.invariant-loop-i
invariant-loop-i g l = first_of
    (entry_fault (g.K.Kind.fits l.kind) (g.K.Kind.is_new l.kind) (g.K.Kind.names_cells l.kind)
    g.row.WIDTH l.self.bytes.now l.self.start) l.i ≡ None
