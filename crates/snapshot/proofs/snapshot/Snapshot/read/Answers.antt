use Rattle.std.proofs.Common.{sym, ◌∙◌}
use Rattle.std.proofs.lemmas.Result.{err_from_is_err_and}
use Rattle.model.proofs.Faults.{no_fault, a_fault}
use Rattle.snapshot.proofs.Opened.{ok_is, file_head, file_entries}
use Rattle.snapshot.proofs.Shown.{sizes_shown, names_shown}
use Rattle.snapshot.proofs.snapshot.Snapshot.read.Goals as goal

pub returns-in_err-layout-clause-fault : goal.returns-in_err-layout-clause-fault
returns-in_err-layout-clause-fault c =
    let p = err_from_is_err_and c.from_residual.result c.from_residual.ensures.1 in
    let bad = file_head c.args.bytes.now _ (a_fault _ _ _ c.in_err-layout.ensures) in
    rw (p.1, p.2, bad)

pub returns-in_err-cells-clause-fault : goal.returns-in_err-cells-clause-fault
returns-in_err-cells-clause-fault c =
    let cells = rw (c.section.ensures.bytes, c.section.ensures.start) at c.in_err-cells.ensures.fault in
    let whole = file_entries c.args.bytes.now c.in_ok-layout.layout
    (no_fault _ _ _ c.in_ok-layout.ensures) (ok_is _ _ _ c.in_ok-layout.ensures) in
    let p = err_from_is_err_and c.from_residual-in_err-cells.result c.from_residual-in_err-cells.ensures.1 in
    rw (p.1, p.2, whole, ← cells)

pub returns-in_err-roots-clause-fault : goal.returns-in_err-roots-clause-fault
returns-in_err-roots-clause-fault c =
    let cells = rw (c.section.ensures.bytes, c.section.ensures.start) at c.in_ok-cells.ensures.fault in
    let cells_are = c.in_ok-cells.ensures.bytes ∙ c.section.ensures.bytes in
    let roots = rw (cells_are, c.section-2.ensures.bytes, c.section-2.ensures.start) at c.in_err-roots.ensures.fault in
    let whole = file_entries c.args.bytes.now c.in_ok-layout.layout
    (no_fault _ _ _ c.in_ok-layout.ensures) (ok_is _ _ _ c.in_ok-layout.ensures) in
    let p = err_from_is_err_and c.from_residual-in_err-roots.result c.from_residual-in_err-roots.ensures.1 in
    rw (p.1, p.2, whole, ← cells, ← roots)

pub returns-in_err-links-clause-fault : goal.returns-in_err-links-clause-fault
returns-in_err-links-clause-fault c =
    let cells = rw (c.section.ensures.bytes, c.section.ensures.start) at c.in_ok-cells.ensures.fault in
    let cells_are = c.in_ok-cells.ensures.bytes ∙ c.section.ensures.bytes in
    let roots = rw (cells_are, c.section-2.ensures.bytes, c.section-2.ensures.start) at c.in_ok-roots.ensures.fault in
    let roots_are = c.in_ok-roots.ensures.bytes ∙ c.section-2.ensures.bytes in
    let links = rw (cells_are, roots_are, c.section-3.ensures.bytes, c.section-3.ensures.start) at c.in_err-links.ensures.fault in
    let whole = file_entries c.args.bytes.now c.in_ok-layout.layout
    (no_fault _ _ _ c.in_ok-layout.ensures) (ok_is _ _ _ c.in_ok-layout.ensures) in
    let p = err_from_is_err_and c.from_residual-in_err-links.result c.from_residual-in_err-links.ensures.1 in
    rw (p.1, p.2, whole, ← cells, ← roots, ← links)

pub returns-in_err-ephemerons-clause-fault : goal.returns-in_err-ephemerons-clause-fault
returns-in_err-ephemerons-clause-fault c =
    let cells = rw (c.section.ensures.bytes, c.section.ensures.start) at c.in_ok-cells.ensures.fault in
    let cells_are = c.in_ok-cells.ensures.bytes ∙ c.section.ensures.bytes in
    let roots = rw (cells_are, c.section-2.ensures.bytes, c.section-2.ensures.start) at c.in_ok-roots.ensures.fault in
    let roots_are = c.in_ok-roots.ensures.bytes ∙ c.section-2.ensures.bytes in
    let links = rw (cells_are, roots_are, c.section-3.ensures.bytes, c.section-3.ensures.start) at c.in_ok-links.ensures.fault in
    let links_are = c.in_ok-links.ensures.bytes ∙ c.section-3.ensures.bytes in
    let ephemerons = rw (cells_are, roots_are, links_are, c.section-4.ensures.bytes, c.section-4.ensures.start) at c.in_err-ephemerons.ensures.fault in
    let whole = file_entries c.args.bytes.now c.in_ok-layout.layout
    (no_fault _ _ _ c.in_ok-layout.ensures) (ok_is _ _ _ c.in_ok-layout.ensures) in
    let p = err_from_is_err_and c.from_residual-in_err-ephemerons.result c.from_residual-in_err-ephemerons.ensures.1 in
    rw (p.1, p.2, whole, ← cells, ← roots, ← links, ← ephemerons)

pub invariant_of-result : goal.invariant_of-result
invariant_of-result c =
    let cells = rw (c.section.ensures.bytes, c.section.ensures.start) at c.in_ok-cells.ensures.fault in
    let cells_are = c.in_ok-cells.ensures.bytes ∙ c.section.ensures.bytes in
    let roots = rw (cells_are, c.section-2.ensures.bytes, c.section-2.ensures.start) at c.in_ok-roots.ensures.fault in
    let roots_are = c.in_ok-roots.ensures.bytes ∙ c.section-2.ensures.bytes in
    let links = rw (cells_are, roots_are, c.section-3.ensures.bytes, c.section-3.ensures.start) at c.in_ok-links.ensures.fault in
    let links_are = c.in_ok-links.ensures.bytes ∙ c.section-3.ensures.bytes in
    let ephemerons = rw (cells_are, roots_are, links_are, c.section-4.ensures.bytes, c.section-4.ensures.start) at c.in_ok-ephemerons.ensures.fault in
    let ephemerons_are = c.in_ok-ephemerons.ensures.bytes ∙ c.section-4.ensures.bytes in
    record {
      sizes = rw cells_are (sizes_shown _ _ (sym cells));
      names = rw (cells_are, roots_are, links_are, ephemerons_are) (names_shown _ _ _ _ _ _ _ (sym roots) (sym links) (sym ephemerons));
    }

pub returns-clause-fault : goal.returns-clause-fault
returns-clause-fault c =
    let cells = rw (c.section.ensures.bytes, c.section.ensures.start) at c.in_ok-cells.ensures.fault in
    let cells_are = c.in_ok-cells.ensures.bytes ∙ c.section.ensures.bytes in
    let roots = rw (cells_are, c.section-2.ensures.bytes, c.section-2.ensures.start) at c.in_ok-roots.ensures.fault in
    let roots_are = c.in_ok-roots.ensures.bytes ∙ c.section-2.ensures.bytes in
    let links = rw (cells_are, roots_are, c.section-3.ensures.bytes, c.section-3.ensures.start) at c.in_ok-links.ensures.fault in
    let links_are = c.in_ok-links.ensures.bytes ∙ c.section-3.ensures.bytes in
    let ephemerons = rw (cells_are, roots_are, links_are, c.section-4.ensures.bytes, c.section-4.ensures.start) at c.in_ok-ephemerons.ensures.fault in
    let ephemerons_are = c.in_ok-ephemerons.ensures.bytes ∙ c.section-4.ensures.bytes in
    let whole = file_entries c.args.bytes.now c.in_ok-layout.layout
    (no_fault _ _ _ c.in_ok-layout.ensures) (ok_is _ _ _ c.in_ok-layout.ensures) in
    rw (whole, ← cells, ← roots, ← links, ← ephemerons)
