-- What a line comes to where the heap refuses its command.
use Rattle.std.proofs.Common.{◌≡◌, List, Some, None, Ok, Err, Option, Result, ℕ, sym, refl, ap, ◌∙◌}
use Rattle.model.specs.declared.fault.Fault.{Fault}
use Rattle.model.specs.Faults.{answer}
use Rattle.model.specs.Meaning.{Meaning}
use Rattle.model.proofs.Faults.{ok_err}
use Rattle.text.specs.declared.refusal.Refusal.{Refusal}
use Rattle.text.specs.declared.command.Command.{Command}
use Rattle.text.specs.declared.command.Command.TheVariants.{Put, Root, Link, Tie, Erase, Grade, Why}
use Rattle.text.specs.Words.{Reading}
use Rattle.text.specs.Commands.{words_in, command_in}
use Rattle.script.specs.Lines.{fault_of, after_command, after_if, placed, obeyed, heap_after}

-- a command with a fault leaves the heap alone
fault_leaves : (h : Meaning) (c : Command) (f : Fault) → fault_of h c ≡ Some f → after_command h c ≡ h
fault_leaves h (Put cell size) f e = rw e
fault_leaves h (Root number target) f e = rw e
fault_leaves h (Link number source target strength) f e = rw e
fault_leaves h (Tie number table key value) f e = rw e
fault_leaves h (Erase number) f e = rw e
fault_leaves h (Grade scheme) f e = refl
fault_leaves h (Why scheme cell) f e = refl

err_same : {A E : Type 0} {r : Result A E} {d e : E} → r ≡ Err d → r ≡ Err e → d ≡ e
err_same p q = cc

-- the line's words make the command c, and p is what the heap answers to it
module _ (h : Meaning) (line : List ℕ) (w : Reading) (c : Command)
    (k : Ok w ≡ words_in line) (m : Ok c ≡ command_in w)
    (p : Result (Unit {0}) Fault) (e : p ≡ answer (fault_of h c) tt) where
  -- the command's fault says what the line comes to, and what the heap answers
  obeyed_by : (o : Option Fault) → fault_of h c ≡ o → obeyed h line ≡ placed w (answer o c)
  obeyed_by o q = rw (sym k, sym m, q)

  answered : (o : Option Fault) → fault_of h c ≡ o → placed w p ≡ placed w (answer o tt)
  answered o q = ap (placed w) (e ∙ ap (λ (o : Option Fault). answer o tt) q)

  -- where the heap finds a fault, the line is refused for it
  pub line_refused : {r : Refusal} → Err r ≡ placed w p
      → (Err r ≡ obeyed h line) × (after_command h c ≡ heap_after h line)
  line_refused {r} f = go (fault_of h c) refl
    where
      go : (o : Option Fault) → fault_of h c ≡ o
          → (Err r ≡ obeyed h line) × (after_command h c ≡ heap_after h line)
      go None q = absurd (ok_err (answered None q) (sym f))
      go (Some g) q =
          let refused = sym (obeyed_by (Some g) q) in
          let same = err_same (sym f) (answered (Some g) q) in
          let left = fault_leaves h c g q ∙ ap (after_if h) refused in
          (ap {B = Result Command Refusal} Err same ∙ refused, left)
