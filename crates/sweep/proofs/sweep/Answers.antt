use Rattle.std.proofs.Common.{sym}
use Rattle.live.specs.Live.{meaning_of, formed_of}
use Rattle.engine.proofs.Front.{front_wide}
use Rattle.sweep.proofs.Sweeps.{answers, leaves, fills, lists_cells, lists_records}
use Rattle.sweep.proofs.Sweeps.{keeps, grades, names_dropped, names_cleared}
use Rattle.sweep.proofs.sweep.Goals as goal

pub slice_bounds-mark-end-2 : goal.slice_bounds-mark-end-2
slice_bounds-mark-end-2 g c =
    let s = g.S.Scheme.model c.args.scheme.now in
    let law = g.met.S.Scheme.lawful c.args.scheme.now in
    let heap = c.args.heap.now in
    let lent = c.args.rows.now in
    let enough = c.in_ok-judge.ensures.rows in
    sym (front_wide s law (meaning_of heap) (formed_of heap) lent _ enough c.grade.ensures.fills)

pub mark-kept-requires : goal.mark-kept-requires
mark-kept-requires g c =
    let s = g.S.Scheme.model c.args.scheme.now in
    let law = g.met.S.Scheme.lawful c.args.scheme.now in
    let heap = c.args.heap.now in
    let lent = c.args.rows.now in
    let enough = c.in_ok-judge.ensures.rows in
    front_wide s law (meaning_of heap) (formed_of heap) lent _ enough c.grade.ensures.fills

pub returns : goal.returns
returns g c =
    let s = g.S.Scheme.model c.args.scheme.now in
    let law = g.met.S.Scheme.lawful c.args.scheme.now in
    let h = meaning_of c.args.heap.now in
    let wf = formed_of c.args.heap.now in
    let limit = c.args.limit in
    let lent = c.args.rows.now in
    let cells = c.args.cells.now in
    let records = c.args.records.now in
    let fine = c.in_ok-judge.ensures.none in
    let enough = c.in_ok-judge.ensures.rows in
    let after = c.grade.new.rows in
    let is = c.grade.ensures.fills in
    let flags = c.mark-kept.result in
    let marked = c.mark-kept.ensures in
    let dropped = c.list_cells-dropped in
    let cleared = c.list_records-cleared in
    let left = c.retain.ensures in
    record {
      answers = answers s law h wf limit lent after cells records fine enough is flags marked dropped.result
          cleared.result dropped.ensures.counts cleared.ensures.counts;
      leaves = leaves s law h wf limit lent after cells records fine enough is flags marked _ left;
      fills = fills s law h wf limit lent after cells records fine enough is flags marked;
      lists_cells = lists_cells s law h wf limit lent after cells records fine enough is flags marked _
          dropped.ensures.lists;
      lists_records = lists_records s law h wf limit lent after cells records fine enough is flags marked _
          cleared.ensures.lists;
      keeps_exactly = keeps s law h wf limit lent after cells records fine enough is flags marked _ left;
      kept_cells_keep_their_grade =
          grades s law h wf limit lent after cells records fine enough is flags marked _ left;
      names_dropped_cells = names_dropped s law h wf limit lent after cells records fine enough is flags marked _
          dropped.ensures.lists dropped.result dropped.ensures.counts;
      names_cleared_records = names_cleared s law h wf limit lent after cells records fine enough is flags marked _
          cleared.ensures.lists cleared.result cleared.ensures.counts;
    }
