use Rattle.std.proofs.Common.{◌≡◌, ℕ, replicate, Some, None, Option, refl, ap, ◌∙◌}
use Rattle.engine.proofs.turns.clear.Goals as goal

-- a copy of an empty row is empty
none_alone : {A : Type 0} (P : Option A → Type 0) → ((x : A) → P (Some x) → ⊥) → (y : Option A) → P y → y ≡ None
none_alone P f None p = refl
none_alone P f (Some x) p = absurd (f x p)

pub returns : goal.returns
returns g c =
    c.fill.ensures.after (none_alone _ (λ x p. p)) ∙ ap (λ (n : ℕ). replicate n None) c.requires
