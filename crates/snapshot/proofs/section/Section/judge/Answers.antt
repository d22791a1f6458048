use Rattle.std.proofs.Common.{◌≡◌, ℕ, ◌-◌, ◌<◌, List, get_or, sym, subst, ◌∙◌, arith}
use Rattle.std.proofs.lemmas.Result.{err_from_is_err_and}
use Rattle.snapshot.specs.Sections.{number, entry, entries, rises}
use Rattle.snapshot.proofs.Entry.{chunk_at, rises_above}
use Rattle.model.proofs.Faults.{a_fault}
use Rattle.snapshot.proofs.Firsts.{begins, goes_on, first_at}
use Rattle.snapshot.proofs.Order.{section_sorted}
use Rattle.snapshot.proofs.section.Section.judge.Goals as goal
use Rattle.snapshot.proofs.section.Section.judge.Goals.{then-i-eq0, else-i-eq0}

pub loop-i-init : goal.loop-i-init
loop-i-init g c = begins _

pub loop-i-preserved : goal.loop-i-preserved
loop-i-preserved g c =
    let w = g.row.WIDTH in
    let bs = c.args.self.now.bytes.now in
    let i = c.loop-i.i in
    let chunk = λ (k : ℕ) (d : List ℕ) (l : k < entries w bs).
    subst (λ (es : List (List ℕ)). get_or es k d ≡ entry w bs k) (sym c.as_chunks.ensures.front)
    (chunk_at w (entries w bs) k bs d l) in
    let here = c.index-entries-i.is ∙ chunk i c.index-entries-i.result (omega arith) in
    let up : c.if-i-eq0.rises ≡ rises (number w bs) i = elim c.if-i-eq0.branch [
      | then-i-eq0 v ↦ rw (v.rises-is, v.if-i-eq0.true)
      | else-i-eq0 v ↦
          (let before = v.index-entries-i-else-i-eq0.is ∙ chunk (i - 1) v.index-entries-i-else-i-eq0.result (omega arith) in
          rw v.rises-is (rises_above w i bs _ _ c.args.self.now.numbered (omega arith)
          (rw before at v.number.ensures) (rw here at v.number-else-i-eq0.ensures)))
    ] in
    goes_on _ _ _ c.loop-i.invariant (rw (here, up) at c.in_ok-check.ensures)

pub returns-in_err-check-clause-fault : goal.returns-in_err-check-clause-fault
returns-in_err-check-clause-fault g c =
    let w = g.row.WIDTH in
    let bs = c.args.self.now.bytes.now in
    let i = c.loop-i.i in
    let chunk = λ (k : ℕ) (d : List ℕ) (l : k < entries w bs).
    subst (λ (es : List (List ℕ)). get_or es k d ≡ entry w bs k) (sym c.as_chunks.ensures.front)
    (chunk_at w (entries w bs) k bs d l) in
    let here = c.index-entries-i.is ∙ chunk i c.index-entries-i.result (omega arith) in
    let up : c.if-i-eq0.rises ≡ rises (number w bs) i = elim c.if-i-eq0.branch [
      | then-i-eq0 v ↦ rw (v.rises-is, v.if-i-eq0.true)
      | else-i-eq0 v ↦
          (let before = v.index-entries-i-else-i-eq0.is ∙ chunk (i - 1) v.index-entries-i-else-i-eq0.result (omega arith) in
          rw v.rises-is (rises_above w i bs _ _ c.args.self.now.numbered (omega arith)
          (rw before at v.number.ensures) (rw here at v.number-else-i-eq0.ensures)))
    ] in
    let p = err_from_is_err_and c.from_residual.result c.from_residual.ensures.1 in
    rw (p.1, p.2)
    (sym (first_at _ i (entries w bs) c.in_err-check.field-0.0
    c.loop-i.invariant (a_fault _ _ _ (rw (here, up) at c.in_err-check.ensures)) (omega arith))
    ∙ g.met.K.Kind.judges c.args.kind.now bs c.args.self.now.start)

pub invariant_of-result : goal.invariant_of-result
invariant_of-result g c =
    let here = c.args.self.now in
    let kind = c.args.kind.now in
    let all : c.loop-i.i ≡ entries g.row.WIDTH here.bytes.now = omega arith in
    record {
      numbered = here.numbered;
      narrow = here.narrow;
      sorted = section_sorted (g.K.Kind.fits kind) (g.K.Kind.is_new kind) (g.K.Kind.names_cells kind)
          g.row.WIDTH here.bytes.now here.start (rw all at c.loop-i.invariant);
    }

pub returns-clause-fault : goal.returns-clause-fault
returns-clause-fault g c =
    let here = c.args.self.now in
    let all : c.loop-i.i ≡ entries g.row.WIDTH here.bytes.now = omega arith in
    sym (rw all at c.loop-i.invariant) ∙ g.met.K.Kind.judges c.args.kind.now here.bytes.now here.start
