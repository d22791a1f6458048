use Rattle.std.proofs.Common.{ℕ, List, get_or, arith, w8, Fits}
use Rattle.std.proofs.lemmas.Result.{err_from_is_err_and}
use Rattle.snapshot.specs.Alone.{Alone}
use Rattle.snapshot.proofs.Alone.{one_file}
use Rattle.snapshot.proofs.snapshot.Snapshot.open.Goals as goal

-- no other file shows the heap of these bytes
alone : (bs : List ℕ) → ((i : ℕ) → Fits w8 (get_or bs i 0)) → Alone bs
alone bs t f other u g e = one_file other bs u (λ k. omega (arith, t k)) g f e

pub returns-in_err-self : goal.returns-in_err-self
returns-in_err-self c =
    let p = err_from_is_err_and c.from_residual.result c.from_residual.ensures.1 in
    let bad = c.in_err-self.ensures.fault in record {
      answers = rw (p.1, p.2, ← bad);
      leaves = rw (← bad);
      alone = alone c.args.bytes.now c.type_inv.bytes;
    }

pub returns : goal.returns
returns c =
    let good = c.in_ok-self.ensures.fault in record {
      answers = rw (← good);
      leaves = rw (← good) c.in_ok-self.ensures.shown;
      alone = alone c.args.bytes.now c.type_inv.bytes;
    }
