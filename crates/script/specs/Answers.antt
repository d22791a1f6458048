-- Answers: the bytes that are printed for a line.
use Rattle.std.specs.Prelude.{ℕ, ◌+◌, List, [], ◌∷◌, ◌++◌, take, Some, None, codes, decimal, Option}
use Rattle.model.specs.declared.record.Strength.{Strength}
use Rattle.model.specs.declared.row.Row.{Row}
use Rattle.model.specs.declared.row.Counts.{Counts}
use Rattle.model.specs.declared.row.Why.{Why}
use Rattle.model.specs.Faults.{number_of, layer_of, letter_of}
use Rattle.model.specs.Settling.{Rows}
use Rattle.schemes.specs.declared.depth.Depth.{Depth}
use Rattle.model.specs.Strengths.{strength_number}
use Rattle.text.specs.declared.refusal.Refusal.{Refusal}

-- a strength as its number
abbrev pub strength_text : Strength → List ℕ
strength_text k = decimal (strength_number k)

abbrev pub bytes_text : ℕ → List ℕ
bytes_text n = decimal n

-- depth, point, tie number
abbrev pub depth_text : Depth → List ℕ
depth_text g = decimal g.depth ++ codes "." ++ decimal g.tie

-- a number behind a space
abbrev pub number_text : ℕ → List ℕ
number_text n = codes " " ++ decimal n

-- no, the layer's letter, the number, the byte where the word begins
abbrev pub refusal_text : Refusal → List ℕ
refusal_text r =
    codes "no " ++ (letter_of (layer_of r.fault.cause) ∷ []) ++ codes " "
    ++ decimal (number_of r.fault.cause) ++ codes " " ++ decimal r.byte

-- a settled cell: a space, the cell, =, its grade, /, its holding record
abbrev pub row_text : {G : Type 0} → (G → List ℕ) → ℕ → Row G → List ℕ
row_text show c row =
    codes " " ++ decimal c ++ codes "=" ++ show row.grade ++ codes "/" ++ decimal row.holder

abbrev pub row_text_if : {G : Type 0} → (G → List ℕ) → ℕ → Option (Row G) → List ℕ
row_text_if show c None = []
row_text_if show c (Some row) = row_text show c row

-- the settled cells in their order, from cell c on
unfoldable pub rows_text : {G : Type 0} → (G → List ℕ) → ℕ → Rows G → List ℕ
rows_text show c [] = []
rows_text show c (x ∷ xs) = row_text_if show c x ++ rows_text show (c + 1) xs

-- ok, settled, weighed, the settled cells
abbrev pub graded_text : {G : Type 0} → (G → List ℕ) → Counts → Rows G → List ℕ
graded_text show k rows =
    codes "ok " ++ decimal k.settled ++ codes " " ++ decimal k.weighed ++ rows_text show 0 rows

-- the steps, each behind a space
abbrev pub step_text : ℕ → List ℕ
step_text r = number_text r

unfoldable pub steps_text : List ℕ → List ℕ
steps_text [] = []
steps_text (r ∷ rs) = step_text r ++ steps_text rs

-- ok, the grade, the count, the steps
abbrev pub explained_text : {G : Type 0} → (G → List ℕ) → Why G → List ℕ → List ℕ
explained_text show k steps =
    codes "ok " ++ show k.grade ++ codes " " ++ decimal k.count ++ steps_text (take k.count steps)
