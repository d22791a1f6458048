-- Digits are read one by one, from the left, until one is none or the number too large.
use Rattle.std.proofs.Common.{◌≡◌, ℕ, ◌+◌, ◌-◌, ◌*◌, ◌≤◌, Bool, true, false, cond, ◌&&◌, leb, List, [], ◌∷◌, Some, None, Option, refl, arith, le-leb}
use Rattle.std.proofs.lemmas.Bool.{leb-true, leb-false, lt-leb}
use Rattle.std.specs.Option.{option_and_then}
use Rattle.text.specs.Words.{digit}
use Rattle.text.specs.Numbers.{all_digits, read_on, number_read}
use Rattle.text.proofs.Folding.{folded}

-- what is read behind a number, if it is a digit and no digit too many
abbrev pub read_digit : ℕ → ℕ → Option ℕ
read_digit n b = cond (digit b) (cond (leb (n * 10 + (b - 48)) 4294967295) (Some (n * 10 + (b - 48))) None) None

-- what is read is no less than what was read before
read_on_from : (n : ℕ) (ds : List ℕ) → n ≤ read_on n ds
unfolding read_on
read_on_from n [] = omega arith
read_on_from n (b ∷ bs) = omega (arith, read_on_from (n * 10 + (b - 48)) bs)

-- the number that the digits write behind one that was read
abbrev number_behind : ℕ → List ℕ → Option ℕ
number_behind n ds = cond (all_digits ds && leb (read_on n ds) 4294967295) (Some (read_on n ds)) None

too_large : (n : ℕ) (ds : List ℕ) → leb n 4294967295 ≡ false → None ≡ number_behind n ds
too_large n ds e = go (all_digits ds) (leb (read_on n ds) 4294967295) (lt-leb _ _ (omega (arith, leb-false n _ e, read_on_from n ds)))
  where
    go : (s t : Bool) → t ≡ false → None ≡ cond (s && t) (Some (read_on n ds)) None
    go true t e = rw e
    go false t e = refl

digits_read : (ds : List ℕ) (n : ℕ) → n ≤ 4294967295 → folded read_digit n ds ≡ number_behind n ds
unfolding all_digits read_on
digits_read [] n l = rw (le-leb n 4294967295 l)
digits_read (b ∷ bs) n l = go (digit b) (leb m 4294967295) refl (λ k. digits_read bs m k)
  where
    m : ℕ
    m = n * 10 + (b - 48)

    go : (s t : Bool) → leb m 4294967295 ≡ t → (m ≤ 4294967295 → folded read_digit m bs ≡ number_behind m bs)
        → option_and_then (λ c. folded read_digit c bs) (cond s (cond t (Some m) None) None)
        ≡ cond ((s && all_digits bs) && leb (read_on m bs) 4294967295) (Some (read_on m bs)) None
    go true true e h = h (leb-true m _ e)
    go true false e h = too_large m bs e
    go false t e h = refl

pub number_folded : (ds : List ℕ) → folded read_digit 0 ds ≡ number_read ds
number_folded ds = digits_read ds 0 (omega arith)
