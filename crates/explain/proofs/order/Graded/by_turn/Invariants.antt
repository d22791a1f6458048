use Rattle.std.proofs.Common.{◌≡◌, length, drop}
use Rattle.model.specs.Explaining.{in_order, cells_by_turn}
use Rattle.explain.specs.Walking.{Cells}
use Rattle.explain.proofs.order.Graded.by_turn.Given as goal

-- the cells that are left complete the order
abbrev pub invariant-loop-cell : goal.invariant-loop-cell
invariant-loop-cell g l = record {
  wide : length l.order ≡ 1024;
  cells : Cells l.order;
  order : in_order l.cell (drop l.cell l.self.rows.now) l.order ≡ cells_by_turn l.self.rows.now;
}
