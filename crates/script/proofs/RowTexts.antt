-- The text of the rows, row by row.
use Rattle.std.proofs.Common.{◌≡◌, ℕ, ◌+◌, ◌<◌, ◌≤◌, List, [], ◌∷◌, ◌++◌, length, get_or, take, drop, Option, sym, ap, ◌∙◌, append_assoc, append-nil, arith, length-take-le}
use Rattle.std.proofs.lemmas.List.{take_more, take-append-drop}
use Rattle.model.specs.declared.row.Row.{Row}
use Rattle.model.specs.Settling.{Rows}
use Rattle.script.specs.Answers.{row_text_if, rows_text}

module _ {G : Type 0} (show : G → List ℕ) where
  appended : (c : ℕ) (xs ys : Rows G) →
      rows_text show c (xs ++ ys) ≡ rows_text show c xs ++ rows_text show (c + length xs) ys
  unfolding rows_text
  appended c [] ys = ap (λ (n : ℕ). rows_text show n ys) (omega arith)
  appended c (x ∷ xs) ys =
      ap (λ (t : List ℕ). row_text_if show c x ++ t) (appended (c + 1) xs ys)
      ∙ (sym (append_assoc (row_text_if show c x) (rows_text show (c + 1) xs) (rows_text show
      (c + 1 + length xs) ys))
      ∙ ap (λ (n : ℕ). row_text_if show c x ++ rows_text show (c + 1) xs ++ rows_text show n ys)
      (omega arith))

  -- the first i rows, and what is behind them
  fronted : (xs : Rows G) (i : ℕ) (ys : Rows G) → i ≤ length xs →
      rows_text show 0 (take i xs ++ ys) ≡ rows_text show 0 (take i xs) ++ rows_text show i ys
  fronted xs i ys l =
      appended 0 (take i xs) ys ∙ ap (λ (n : ℕ). rows_text show 0 (take i xs) ++ rows_text show n ys)
      (omega (arith, length-take-le i xs l))

  -- row i, which is o, behind the rows before it
  pub rows_more : (xs : Rows G) (i : ℕ) (o : Option (Row G)) → i < length xs → o ≡ get_or xs i o →
      rows_text show 0 (take (i + 1) xs) ≡ rows_text show 0 (take i xs) ++ row_text_if show i o
  unfolding rows_text
  rows_more xs i o l e =
      ap (λ (r : Rows G). rows_text show 0 r) (take_more xs i o l ∙ ap (λ (x : Option (Row G)).
      take i xs ++ (x ∷ [])) (sym e))
      ∙ (fronted xs i (o ∷ []) (omega arith)
      ∙ ap (λ (t : List ℕ). rows_text show 0 (take i xs) ++ t) (append-nil (row_text_if show i o)))

  -- the text of the first i rows and of those behind them
  pub rows_split : (xs : Rows G) (i : ℕ) → i ≤ length xs →
      rows_text show 0 xs ≡ rows_text show 0 (take i xs) ++ rows_text show i (drop i xs)
  rows_split xs i l = ap (rows_text show 0) (sym (take-append-drop i xs)) ∙ fronted xs i (drop i xs) l
