use Rattle.std.proofs.Common.{ℕ, List, subst}
use Rattle.snapshot.specs.Laid.{file_fault, laid_down}
use Rattle.snapshot.specs.Snapshot.{meaning_of}
use Rattle.text.specs.Writing.{Writes}
use Rattle.report.proofs.Opened.{opened_shown, refusal_shown}
use Rattle.report.proofs.inspect.inspect.Goals as goal

pub returns-in-Ok : goal.returns-in-Ok
returns-in-Ok c =
    let e = opened_shown (file_fault c.args.bytes.now) c.args.wanted tt
    (meaning_of c.open.new.self) (laid_down c.args.bytes.now) (meaning_of
    c.empty-snapshot.result)
    c.in-Ok.ensures.answers c.open.ensures.leaves in
    subst (λ (t : List ℕ). Writes c.print_heap.result c.args.out.now t c.print_heap.new.out) e
    c.print_heap.ensures

pub returns-in-Err : goal.returns-in-Err
returns-in-Err c =
    let e = refusal_shown (file_fault c.args.bytes.now) c.args.wanted c.in-Err.fault
    (laid_down c.args.bytes.now) c.in-Err.ensures.answers in
    subst (λ (t : List ℕ). Writes c.print_file_refusal.result c.args.out.now t
    c.print_file_refusal.new.out) e c.print_file_refusal.ensures
