-- Scripts: bytes come in one after another, and each line is answered as it ends.
use Rattle.std.specs.Prelude.{◌≡◌, ℕ, cond, List, [], ◌∷◌, ◌++◌, length, ◌==◌, nat_lt}
use Rattle.model.specs.Meaning.{Meaning}
use Rattle.script.specs.Lines.{heap_after, answer_line}

-- Lines end at byte 10, and the last, if not empty, at the end of the input.
abbrev pub onto_first : ℕ → List (List ℕ) → List (List ℕ)
onto_first b [] = (b ∷ []) ∷ []
onto_first b (l ∷ ls) = (b ∷ l) ∷ ls

unfoldable pub lines_of : List ℕ → List (List ℕ)
lines_of [] = []
lines_of (b ∷ bs) = cond (b == 10) ([] ∷ lines_of bs) (onto_first b (lines_of bs))

-- the answers to lines, each from the heap that the lines before it left
unfoldable pub answers : Meaning → List (List ℕ) → List ℕ
answers h [] = []
answers h (l ∷ ls) = answer_line h l ++ answers (heap_after h l) ls

-- What is held between two bytes: the heap, and the first 81 bytes of the line,
-- since a line of more than 80 is refused whatever it says.
pub record State : Type 0 where
  pub heap : Meaning
  pub line : List ℕ

-- a byte more of the line
abbrev pub kept : List ℕ → ℕ → List ℕ
kept line b = cond (nat_lt (length line) 81) (line ++ (b ∷ [])) line

abbrev pub with_byte : State → ℕ → State
with_byte st b = record { heap = st.heap; line = kept st.line b }

-- the end of the line: what it leaves, and what it prints
abbrev pub line_ended : State → State
line_ended st = record { heap = heap_after st.heap st.line; line = [] }

abbrev pub line_answer : State → List ℕ
line_answer st = answer_line st.heap st.line

-- what the next byte leaves, and what it prints
abbrev pub after_byte : State → ℕ → State
after_byte st b = cond (b == 10) (line_ended st) (with_byte st b)

abbrev pub byte_prints : State → ℕ → List ℕ
byte_prints st b = cond (b == 10) (line_answer st) []

-- what the end of the input leaves, and what it prints
abbrev pub after_end : State → State
after_end st = cond (length st.line == 0) st (line_ended st)

abbrev pub end_prints : State → List ℕ
end_prints st = cond (length st.line == 0) [] (line_answer st)

-- what is printed from a state on, for the rest of the input
unfoldable pub output : State → List ℕ → List ℕ
output st [] = end_prints st
output st (b ∷ bs) = byte_prints st b ++ output (after_byte st b) bs

-- fed byte by byte, a script prints the answers to its lines
abbrev pub AnswersEachLine : State → Type 0
AnswersEachLine st = (input : List ℕ) → output st input ≡ answers st.heap (lines_of input)
