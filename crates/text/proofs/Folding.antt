-- A fold over a list that a step may break off, and that `try_fold` makes it.
use Rattle.std.proofs.Common.{◌≡◌, List, [], ◌∷◌, Some, None, Option, sym, ap, ◌∙◌, subst}
use Rattle.std.proofs.lemmas.Iterator.{YieldsList}
use Rattle.std.specs.ControlFlow.{continue_value}
use Rattle.std.specs.Fn.{Called}
use Rattle.std.specs.Iterator.{AlwaysYields, Yields, TryFoldTurn, TryFoldsItems}
use Rattle.std.specs.List.{FoldsTo}
use Rattle.std.specs.Option.{MatchOption, option_and_then}
use Rattle.std.specs.declared.ops.ControlFlow.{ControlFlow}
use Rattle.std.specs.declared.ops.ControlFlow.TheVariants.{Continue, Break}
use denote.Param.Members.{Mut}

-- step by step from the left, until a step gives nothing
abbrev pub folded : {B X : Type 0} → (B → X → Option B) → B → List X → Option B
folded next b [] = Some b
folded next b (x ∷ xs) = option_and_then (λ c. folded next c xs) (next b x)

-- what `?` does with an option
abbrev branches : {B E : Type 0} → Option B → ControlFlow E B → Type 0
branches o c = o ≡ continue_value c

-- the end of a fold: nothing came, or a step at what came broke off
abbrev End : {A F B E : Type 0} → Mut F (B × (A × Unit {0})) (Option B) → (E → Option B → Type 0) → Option A → F → B → Option B → Type 0
End {A} {F} {B} {E} g resumes o j a r =
    MatchOption o (branches {E = E} r (Continue a))
    (λ x. (w : Option B) × (h : F) × (e : E) × Called g j (a, (x, tt)) w h × branches w (Break e) × resumes e r)

module _ {S A X F B E : Type 0} (steps : S → Option A → S → Type 0) (v : A → X) (g : Mut F (B × (A × Unit {0})) (Option B))
    (resumes : E → Option B → Type 0) (next : B → X → Option B) (f : F)
    (breaks : (e : E) (r : Option B) → resumes e r → r ≡ None)
    (called : (b : B) (x : A) (o : Option B) (q : F) → Called g f (b, (x, tt)) o q → (q ≡ f) × (o ≡ next b (v x))) where
  ends : (all : List X) (s : S) (b : B) (o : Option A) (r : Option B) (u : S) → steps s o u → End g resumes o f b r → AlwaysYields steps v s all → r ≡ folded next b all
  ends [] s b None r u k h y = h
  ends [] s b (Some x) r u k h y = absurd (y x u k)
  ends (z ∷ zs) s b None r u k h y = absurd (y.0 u k)
  ends (z ∷ zs) s b (Some x) r u k h y =
      let is : v x ≡ z = (y.1 x u k).0 in
      let stops : None ≡ next b z = sym h.4 ∙ (called b x h.0 h.1 h.3).1 ∙ ap (next b) is in
      breaks h.2 r h.5 ∙ ap (option_and_then (λ c. folded next c zs)) stops

  goes : (xs : List A) (all : List X) (s t : S) (b a : B) (j : F) (o : Option A) (r : Option B) (u : S)
      → Yields steps s xs t → FoldsTo {P = F × B} (TryFoldTurn {E = E} g branches) (f, b) xs (j, a) → steps t o u → End g resumes o j a r
      → AlwaysYields steps v s all → r ≡ folded next b all
  goes [] all s t b a j o r u k c l h y =
      let p : (f, b) ≡ (j, a) = c in
      ends all s b o r u
      (subst (λ i. steps i o u) (sym k) l)
      (subst (λ (q : F × B). End g resumes o q.0 q.1 r) (sym p) h) y
  goes (x ∷ xs) [] s t b a j o r u k c l h y = absurd (y x k.0 k.1)
  goes (x ∷ xs) (z ∷ zs) s t b a j o r u k c l h y =
      let m = called b x c.1.0 c.0.0 c.1.1 in
      let is = y.1 x k.0 k.1 in
      let on : Some c.0.1 ≡ next b z = sym c.1.2 ∙ m.1 ∙ ap (next b) is.0 in
      goes xs zs k.0 t c.0.1 a j o r u k.2
      (subst (λ (q : F × B). FoldsTo (TryFoldTurn {E = E} g branches) q xs (j, a)) {x = c.0} {y = (f, c.0.1)} (λ i. (m.0 i, c.0.1)) c.2)
      l h is.1
      ∙ ap (option_and_then (λ d. folded next d zs)) on

  folds : (b : B) (all : List X) (s u : S) (r : Option B) → TryFoldsItems steps g branches resumes s f b r u → YieldsList steps v s all → r ≡ folded next b all
  folds b all s u r d y = goes d.0 all s d.4.0 b d.3 d.2 d.1 r u d.4.1 d.5 d.4.2 d.6 y.runs

-- the answer of `try_fold`, from its clause `ran`
pub try_fold_over : {S A X F B E : Type 0} {steps : S → Option A → S → Type 0} {v : A → X} {g : Mut F (B × (A × Unit {0})) (Option B)}
    {resumes : E → Option B → Type 0} {all : List X} (next : B → X → Option B) (f : F) (b : B) (s u : S) (r : Option B)
    → TryFoldsItems steps g branches resumes s f b r u → YieldsList steps v s all
    → ((e : E) (r : Option B) → resumes e r → r ≡ None)
    → ((b : B) (x : A) (o : Option B) (q : F) → Called g f (b, (x, tt)) o q → (q ≡ f) × (o ≡ next b (v x)))
    → r ≡ folded next b all
try_fold_over {steps = steps} {v = v} {g = g} {resumes = resumes} {all = all} next f b s u r d y breaks called =
    folds steps v g resumes next f breaks called b all s u r d y
