-- What is known of lent rows, of which there are enough, once `grade` has filled them.
use Rattle.std.proofs.Common.{◌≡◌, ◌≤◌, ◌++◌, length, take, drop, None, ap, ◌∙◌}
use Rattle.std.proofs.lemmas.List.{take_at}
use Rattle.std.proofs.lemmas.Bool.{le-leb}
use Rattle.model.specs.Schemes.{Scheme, Lawful}
use Rattle.model.specs.Meaning.{Meaning, WellFormed}
use Rattle.model.specs.Settling.{Rows, graded}
use Rattle.model.specs.Grading.{rows_fault, grade_after}
use Rattle.model.proofs.Steps.{graded_done}

module _ {G : Type 0} (lent : Rows G) (enough : 1024 ≤ length lent) where
  -- enough rows are no fault
  pub rows_fine : rows_fault lent ≡ None
  rows_fine = rw (le-leb 1024 (length lent) enough)

  pub filled_by : (s : Scheme G) (h : Meaning) (after : Rows G) → after ≡ grade_after s h lent
      → after ≡ (graded s h).rows ++ drop 1024 lent
  filled_by s h after e = rw rows_fine at e

-- the first 1,024 rows are those of the rule
module _ {G : Type 0} (s : Scheme G) (law : Lawful s) (h : Meaning) (wf : WellFormed h)
    (lent after : Rows G) (enough : 1024 ≤ length lent) (is-after : after ≡ grade_after s h lent) where
  pub front_graded : take 1024 after ≡ (graded s h).rows
  front_graded =
      ap (take 1024) (filled_by lent enough s h after is-after)
      ∙ take_at (graded s h).rows (drop 1024 lent) 1024 (graded_done s law h wf).0.wide

  pub front_wide : length (take 1024 after) ≡ 1024
  front_wide = ap length front_graded ∙ (graded_done s law h wf).0.wide
