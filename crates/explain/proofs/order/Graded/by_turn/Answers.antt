use Rattle.std.proofs.Common.{◌≡◌, get_or, None, refl, sym, ◌∙◌, subst, arith}
use Rattle.std.proofs.lemmas.List.{get_or_read}
use Rattle.model.specs.Explaining.{placed}
use Rattle.laws.proofs.Unfolding.{length-placed}
use Rattle.explain.specs.Walking.{Cells}
use Rattle.explain.proofs.Walks.{order_more, order_all, order_first, cells_placed, cells_first}
use Rattle.explain.proofs.order.Graded.by_turn.Goals as goal
use Rattle.explain.proofs.order.Graded.by_turn.Goals.{in-Some, in_default}

pub loop-cell-init : goal.loop-cell-init
loop-cell-init g c = record {
  wide = refl;
  cells = cells_first 1024;
  order = order_first c.args.self.now.rows.now;
}

pub bounds-order-row : goal.bounds-order-row
bounds-order-row g c =
    let graded = c.args.self.now in
    let cell = c.loop-cell.cell in
    let here = get_or_read graded.rows.now cell c.row-item.result (omega arith) c.row-item.is None in
    graded.timely cell c.in-Some.row (sym here ∙ c.in-Some.is)

pub loop-cell-preserved : goal.loop-cell-preserved
loop-cell-preserved g c =
    let rows = c.args.self.now.rows.now in
    let at = c.loop-cell in
    let row = get_or rows at.cell None in
    let here = sym (get_or_read rows at.cell c.row-item.result (omega arith) c.row-item.is None) in
    let placed : c.match-row.order ≡ placed at.cell row at.order =
    elim c.match-row.branch [
      | in-Some w ↦ let is = here ∙ w.in-Some.is in rw is w.order-is
      | in_default w ↦ let is = here ∙ w.in_default.is in rw is w.order-is
    ] in
    let more = order_more rows at.order at.cell (omega arith) in
    let long = length-placed at.cell row at.order in
    let wide = at.invariant.wide in
    let order = at.invariant.order in
    record {
      wide = cc;
      cells = subst Cells (sym placed) (cells_placed at.cell row at.order at.invariant.cells (omega arith));
      order = cc;
    }

pub returns : goal.returns
returns g c =
    let at = c.loop-cell in
    let wide = c.args.self.now.wide in
    record {
      is = sym (order_all c.args.self.now.rows.now at.order at.cell (omega arith)) ∙ at.invariant.order;
      cells = at.invariant.cells;
    }
