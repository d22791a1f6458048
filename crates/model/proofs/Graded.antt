-- What the settling rule computes: a settled cell has the grade of a best derivation, and a cell
-- that stays unsettled has no derivation.
use Rattle.std.proofs.Common.{◌≡◌, ℕ, get_or, Some, None, Option, refl}
use Rattle.model.specs.declared.row.Row.{Row}
use Rattle.model.specs.Schemes.{Scheme, Lawful}
use Rattle.model.specs.Meaning.{Meaning, WellFormed}
use Rattle.model.specs.Derivations.{Derivation, Best}
use Rattle.model.specs.Settling.{graded}
use Rattle.model.specs.Grading.{Settled, Tells}
use Rattle.model.proofs.Filled.{none_some}
use Rattle.model.proofs.Knuth.{Unsettled, unsettled_beaten}
use Rattle.model.proofs.Steps.{graded_done}

module _ {G : Type 0} (s : Scheme G) (law : Lawful s) (h : Meaning) (wf : WellFormed h) where
  pub settled_best : (c : ℕ) (row : Row G) → Settled (graded s h).rows c row → Best s h c row.grade
  settled_best = (graded_done s law h wf).0.settled_best

  pub unsettled_underived : (c : ℕ) → Unsettled (graded s h).rows c → Derivation h c → ⊥
  unsettled_underived c e d =
      let p = graded_done s law h wf in
      let b = unsettled_beaten s law h wf (graded s h) p.0 d e in
      none_some p.1 b.1

  -- so each row tells the truth about its cell
  pub graded_tells : (c : ℕ) → Tells s h c (get_or (graded s h).rows c None)
  graded_tells c = go (get_or (graded s h).rows c None) refl
    where
      go : (x : Option (Row G)) → get_or (graded s h).rows c None ≡ x → Tells s h c x
      go None e = unsettled_underived c e
      go (Some row) e = settled_best c row e
