-- How far the first word of a line goes, and how many words there are.
use Rattle.std.proofs.Common.{◌≡◌, ℕ, suc, ◌+◌, ◌<◌, ◌≤◌, Bool, true, false, cond, not, eqb, List, [], ◌∷◌, length, get_or, take, drop, Some, None, Option, refl, ap, add-one, drop-cons, eq-eqb, ne_eqb, ◌∙◌, arith}
use Rattle.std.proofs.lemmas.List.{drop_all}
use Rattle.std.proofs.lemmas.Bool.{ltb-false}
use lib.Dec.{ltb}
use Rattle.std.specs.List.{position_or_len, position}
use Rattle.text.specs.Words.{front, behind, word_count}

abbrev pub is_space : ℕ → Bool
is_space b = eqb b 32

-- the first word goes up to the first space
pub front_before : (bs : List ℕ) → take (position_or_len is_space bs) bs ≡ front bs
unfolding front
front_before [] = refl
front_before (b ∷ bs) = go (eqb b 32) (front_before bs)
  where
    go : (t : Bool) → take (position_or_len is_space bs) bs ≡ front bs
        → take (cond (not t) (1 + position_or_len is_space bs) 0) (b ∷ bs) ≡ cond t [] (b ∷ front bs)
    go true h = refl
    go false h =
        let n = position_or_len is_space bs in
        ap (λ (m : ℕ). take m (b ∷ bs)) {x = 1 + n} {y = suc n} (omega arith)
        ∙ ap (λ (xs : List ℕ). b ∷ xs) h

-- the line behind it is the part after the space
pub behind_after : (bs : List ℕ) → drop (position_or_len is_space bs + 1) bs ≡ behind bs
unfolding behind
behind_after [] = refl
behind_after (b ∷ bs) = go (eqb b 32) (behind_after bs)
  where
    go : (t : Bool) → drop (position_or_len is_space bs + 1) bs ≡ behind bs
        → drop (cond (not t) (1 + position_or_len is_space bs) 0 + 1) (b ∷ bs) ≡ cond t bs (behind bs)
    go true h = refl
    go false h =
        let n = position_or_len is_space bs in
        ap (λ (m : ℕ). drop m (b ∷ bs)) {x = 1 + n + 1} {y = suc (n + 1)} (omega arith) ∙ h

-- each space brings a word more, and no other byte does
pub count_on : (bs : List ℕ) (i : ℕ) → i < length bs → get_or bs i 0 ≡ 32
    → word_count (drop i bs) ≡ 1 + word_count (drop (i + 1) bs)
unfolding word_count
count_on bs i l e = let f = eq-eqb (get_or bs i 0) 32 e in rw (add-one, drop-cons bs i 0, f)

pub count_off : (bs : List ℕ) (i : ℕ) → i < length bs → (get_or bs i 0 ≡ 32 → ⊥)
    → word_count (drop i bs) ≡ word_count (drop (i + 1) bs)
unfolding word_count
count_off bs i l e = let f = ne_eqb (get_or bs i 0) 32 e in rw (add-one, drop-cons bs i 0, f) (omega arith)

pub count_none : (bs : List ℕ) (i : ℕ) → length bs ≤ i → word_count (drop i bs) ≡ 1
unfolding word_count
count_none bs i l = rw (drop_all i bs l)

-- the first space is where it was found
pub space_found : (bs : List ℕ) (i : ℕ) → Some i ≡ position is_space bs → i ≡ position_or_len is_space bs
space_found bs i = go (ltb (position_or_len is_space bs) (length bs))
  where
    go : (t : Bool) → Some i ≡ cond t (Some (position_or_len is_space bs)) None → i ≡ position_or_len is_space bs
    go true e = cc
    go false e = cc

-- and where none was found, all bytes stand before it
pub no_space : (bs : List ℕ) → None ≡ position is_space bs → length bs ≤ position_or_len is_space bs
no_space bs = go (ltb (position_or_len is_space bs) (length bs)) refl
  where
    go : (t : Bool) → ltb (position_or_len is_space bs) (length bs) ≡ t → ◌≡◌ {A = Option ℕ} None (cond t (Some (position_or_len is_space bs)) None)
        → length bs ≤ position_or_len is_space bs
    go true f e = cc
    go false f e = ltb-false _ _ f
