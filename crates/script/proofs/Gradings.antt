-- What is printed of a grading is what the settling rule says.
use Rattle.std.proofs.Common.{◌≡◌, ℕ, List, ◌++◌, take, drop, Some, None, Ok, Option, refl, ap, ◌∙◌, ap₂}
use Rattle.std.proofs.lemmas.List.{take_at}
use Rattle.model.specs.declared.fault.Fault.{Fault}
use Rattle.model.specs.declared.row.Counts.{Counts}
use Rattle.model.specs.Faults.{answer, left}
use Rattle.model.specs.Meaning.{Meaning, WellFormed}
use Rattle.model.specs.Schemes.{Scheme, Lawful}
use Rattle.model.specs.Settling.{Rows, graded, weighed}
use Rattle.model.specs.Grading.{rows_fault, grade_answer, grade_after}
use Rattle.model.proofs.Steps.{graded_done}
use Rattle.script.specs.Answers.{graded_text}
use Rattle.script.specs.Lines.{grades_text, grading_text, text_unless}
use Rattle.model.proofs.Faults.{ok_same, ok_err}

-- k and `front` are the counts and the 1,024 rows that a grading answers and leaves
module _ {G : Type 0} (show : G → List ℕ) (s : Scheme G) (law : Lawful s)
    (h : Meaning) (wf : WellFormed h) where
  pub grading_printed : (rows after front : Rows G) (k : Counts) → Ok k ≡ grade_answer s h rows
      → after ≡ grade_after s h rows → front ≡ take 1024 after
      → graded_text show k front ≡ grading_text show s h rows
  grading_printed rows after front k a b c = go (rows_fault rows) a b
    where
      counts : Counts
      counts = record { settled = (graded s h).turn; weighed = weighed s h }

      go : (o : Option Fault) → Ok k ≡ answer o counts
          → after ≡ left o ((graded s h).rows ++ drop 1024 rows) rows
          → graded_text show k front ≡ text_unless o (grades_text show s h)
      go None p q =
          let wide = (graded_done s law h wf).0.wide in
          let whole = take_at (graded s h).rows (drop 1024 rows) 1024 wide in
          ap₂ (graded_text show) (ok_same refl p) (c ∙ ap (take 1024) q ∙ whole)
      go (Some e) p q = absurd (ok_err refl p)
