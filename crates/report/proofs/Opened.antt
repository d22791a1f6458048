-- What is shown of a file that opened.
use Rattle.std.proofs.Common.{◌≡◌, Some, None, Ok, Err, Option, Result, refl, ap}
use Rattle.model.specs.declared.fault.Fault.{Fault}
use Rattle.model.specs.Faults.{answer, left}
use Rattle.model.specs.Meaning.{Meaning}
use Rattle.model.proofs.Faults.{ok_err}
use Rattle.report.specs.declared.inspect.Wanted.{Wanted}
use Rattle.report.specs.Inspect.{shown_text, file_refusal_text, inspected}

-- the heap after an accepted opening is the one that the file lays down
pub opened_shown : (o : Option Fault) (wanted : Wanted) (u : Unit {0}) (now laid before : Meaning) →
    Ok u ≡ answer o tt → now ≡ left o laid before → shown_text wanted now ≡ inspected o wanted laid
opened_shown None wanted u now laid before p q = ap (shown_text wanted) q
opened_shown (Some f) wanted u now laid before p q = absurd (ok_err refl p)

err_same : {A E : Type 0} {d e : E} → ◌≡◌ {A = Result A E} (Err d) (Err e) → d ≡ e
err_same p = cc

pub refusal_shown : (o : Option Fault) (wanted : Wanted) (f : Fault) (laid : Meaning) →
    ◌≡◌ {A = Result (Unit {0}) Fault} (Err f) (answer o tt) →
    file_refusal_text f ≡ inspected o wanted laid
refusal_shown None wanted f laid p = absurd (ok_err p refl)
refusal_shown (Some g) wanted f laid p = ap file_refusal_text (err_same p)
