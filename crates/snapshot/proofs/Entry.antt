-- The entries of a section, and their numbers.
use Rattle.std.proofs.Common.{◌≡◌, ◌≢◌, ℕ, zero, suc, ◌+◌, ◌-◌, ◌*◌, ◌<◌, ◌≤◌, List, get_or, take, drop, nat_lt, refl, ap, ◌∙◌, arith}
use Rattle.std.specs.Simd.{first_chunks}
use Rattle.std.proofs.lemmas.List.{drop-drop}
use Rattle.snapshot.specs.Numbers.{u16_at}
use Rattle.snapshot.specs.Sections.{number, entry, rises}
use Rattle.snapshot.specs.Judged.{u16_entry}

-- entries' numbers rise where they are compared
pub rises_above : (w k : ℕ) (bs : List ℕ) (a b : ℕ) → 2 ≤ w → k ≢ 0 →
    a ≡ u16_at (entry w bs (k - 1)) 0 → b ≡ u16_at (entry w bs k) 0 → nat_lt a b ≡ rises (number w bs) k
rises_above w zero bs a b h ne p q = absurd (ne refl)
rises_above w (suc k) bs a b h ne p q =
    let e : suc k - 1 ≡ k = omega arith in
    rw (p, q, e, u16_entry w k 0 bs h, u16_entry w (suc k) 0 bs h)

-- the chunks of a section are its entries
pub chunk_at : (w n k : ℕ) (bs d : List ℕ) → k < n → get_or (first_chunks w n bs) k d ≡ entry w bs k
chunk_at w zero k bs d l = absurd (omega arith)
chunk_at w (suc n) zero bs d l =
    let e : 0 ≡ w * 0 = omega arith in
    ap (λ (j : ℕ). take w (drop j bs)) e
chunk_at w (suc n) (suc k) bs d l =
    let e : w + w * k ≡ w * suc k = omega arith in
    chunk_at w n k (drop w bs) d (omega arith) ∙ (ap (take w) (drop-drop (w * k) w bs) ∙
    ap (λ (j : ℕ). take w (drop j bs)) e)

-- the number of a chunk is its entry's
pub number_of : (w n k : ℕ) (bs d e : List ℕ) → 2 ≤ w → k < n → e ≡ get_or (first_chunks w n bs) k d →
    u16_at e 0 ≡ number w bs k
number_of w n k bs d e wide l is =
    ap (λ (c : List ℕ). u16_at c 0) (is ∙ chunk_at w n k bs d l) ∙ u16_entry w k 0 bs wide
