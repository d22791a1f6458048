-- Number words: 1 to 10 digits, no needless zero in front, at most 4,294,967,295.
use Rattle.std.specs.Prelude.{ℕ, ◌+◌, ◌-◌, ◌*◌, Bool, true, false, cond, not, ◌&&◌, List, [], ◌∷◌, length, Some, None, Option, ◌==◌, nat_le}
use Rattle.text.specs.Words.{digit}

unfoldable pub all_digits : List ℕ → Bool
all_digits [] = true
all_digits (b ∷ bs) = digit b && all_digits bs

-- the number that digits write behind those that write n
unfoldable pub read_on : ℕ → List ℕ → ℕ
read_on n [] = n
read_on n (b ∷ bs) = read_on (n * 10 + (b - 48)) bs

-- the number that digits write, if it is small enough
abbrev pub number_read : List ℕ → Option ℕ
number_read ds =
    cond (all_digits ds && nat_le (read_on 0 ds) 4294967295) (Some (read_on 0 ds)) None

-- a zero in front is needless unless it stands alone
abbrev pub needless_zero : List ℕ → Bool
needless_zero [] = false
needless_zero (b ∷ []) = false
needless_zero (b ∷ _ ∷ _) = b == 48

-- the number of a word that begins with a digit
abbrev pub number_of_digits : List ℕ → Option ℕ
number_of_digits ds = cond (nat_le (length ds) 10 && not (needless_zero ds)) (number_read ds) None
