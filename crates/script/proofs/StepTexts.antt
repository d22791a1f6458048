-- The text of the steps, step by step.
use Rattle.std.proofs.Common.{◌≡◌, ℕ, ◌+◌, ◌<◌, List, [], ◌∷◌, ◌++◌, length, get_or, take, drop, sym, refl, ap, ◌∙◌, append_assoc, append-nil}
use Rattle.std.proofs.lemmas.List.{take_more, take-append-drop}
use Rattle.script.specs.Answers.{number_text, steps_text}

appended : (xs ys : List ℕ) → steps_text (xs ++ ys) ≡ steps_text xs ++ steps_text ys
unfolding steps_text
appended [] ys = refl
appended (x ∷ xs) ys =
    ap (λ (t : List ℕ). number_text x ++ t) (appended xs ys)
    ∙ sym (append_assoc (number_text x) (steps_text xs) (steps_text ys))

-- step i behind the steps before it
pub steps_more : (xs : List ℕ) (i : ℕ) → i < length xs →
    steps_text (take (i + 1) xs) ≡ steps_text (take i xs) ++ number_text (get_or xs i 0)
unfolding steps_text
steps_more xs i l =
    ap steps_text (take_more xs i 0 l) ∙ (appended (take i xs) (get_or xs i 0 ∷ [])
    ∙ ap (λ (t : List ℕ). steps_text (take i xs) ++ t) (append-nil (number_text (get_or xs i 0))))

-- the text of a front and of what is behind it
pub steps_split : (xs : List ℕ) (i : ℕ) → steps_text xs ≡ steps_text (take i xs) ++ steps_text (drop i xs)
steps_split xs i = ap steps_text (sym (take-append-drop i xs)) ∙ appended (take i xs) (drop i xs)
