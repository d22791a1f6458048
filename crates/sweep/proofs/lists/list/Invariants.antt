use Rattle.sweep.proofs.Passes.{Listed}
use Rattle.sweep.proofs.lists.list.Given as goal

abbrev pub invariant-loop-number : goal.invariant-loop-number
invariant-loop-number g l = Listed g.test l.initial.numbers l.number l.count l.numbers
