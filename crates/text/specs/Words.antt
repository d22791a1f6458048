-- Words: what stands between single spaces (byte 32), each sorted by its bytes.
-- Every space separates, so two in a row enclose an empty word.
use Rattle.std.specs.Prelude.{ℕ, zero, suc, ◌+◌, Bool, cond, ◌&&◌, List, [], ◌∷◌, length, Some, None, Option, ◌==◌, nat_le}

-- a word by what it can stand for, with the byte of the line where it begins
pub data Lexeme : Type 0 where
  numeral : List ℕ → ℕ → Lexeme
  letter : ℕ → ℕ → Lexeme
  other : ℕ → Lexeme

-- the bytes 0 to 9
abbrev pub digit : ℕ → Bool
digit b = nat_le 48 b && nat_le b 57

abbrev pub single : ℕ → List ℕ → ℕ → Lexeme
single b [] at = letter b at
single b (_ ∷ _) at = other at

-- what begins with a digit may be a number; any other single byte may be a letter
abbrev pub lexeme : List ℕ → ℕ → Lexeme
lexeme [] at = other at
lexeme (b ∷ bs) at = cond (digit b) (numeral (b ∷ bs) at) (single b bs at)

-- the bytes before the first space
unfoldable pub front : List ℕ → List ℕ
front [] = []
front (b ∷ bs) = cond (b == 32) [] (b ∷ front bs)

-- the bytes behind the first space
unfoldable pub behind : List ℕ → List ℕ
behind [] = []
behind (b ∷ bs) = cond (b == 32) bs (behind bs)

-- how many words there are: one more than spaces
unfoldable pub word_count : List ℕ → ℕ
word_count [] = 1
word_count (b ∷ bs) = cond (b == 32) 1 0 + word_count bs

-- word k of what is left of the line from byte `at` on
abbrev pub word_from : ℕ → List ℕ → ℕ → Lexeme
word_from at bs zero = lexeme (front bs) at
word_from at bs (suc k) = word_from (at + length (front bs) + 1) (behind bs) k

-- how many words a line has, and the first five: no command has more
pub record Reading : Type 0 where
  pub count : ℕ
  pub verb : Lexeme
  pub first : Lexeme
  pub second : Lexeme
  pub third : Lexeme
  pub fourth : Lexeme

abbrev pub reading : List ℕ → Reading
reading line = record {
  count = word_count line;
  verb = word_from 0 line 0;
  first = word_from 0 line 1;
  second = word_from 0 line 2;
  third = word_from 0 line 3;
  fourth = word_from 0 line 4;
}

-- the digits of a word that may be a number
abbrev pub digits_of : Lexeme → Option (List ℕ)
digits_of (numeral ds at) = Some ds
digits_of (letter b at) = None
digits_of (other at) = None

-- the letter that a word may be
abbrev pub letter_of : Lexeme → Option ℕ
letter_of (numeral ds at) = None
letter_of (letter b at) = Some b
letter_of (other at) = None

-- where a word begins
abbrev pub place_of : Lexeme → ℕ
place_of (numeral ds at) = at
place_of (letter b at) = at
place_of (other at) = at

-- where word k begins; 0 for any but the first four behind the command
abbrev pub byte_of : Reading → ℕ → ℕ
byte_of w k =
    cond (k == 1) (place_of w.first)
    (cond (k == 2) (place_of w.second)
    (cond (k == 3) (place_of w.third)
    (cond (k == 4) (place_of w.fourth) 0)))
