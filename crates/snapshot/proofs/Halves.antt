-- Bytes that make the same numbers are the same.
use Rattle.std.proofs.Common.{◌≡◌, ℕ, ◌+◌, ◌*◌, ◌/◌, ◌%◌, ◌<◌, ◌≤◌, List, length, get_or, take, drop, inl, inr, arith, length-take}
use Rattle.std.proofs.lemmas.List.{ext_get_or, get_or-take, get_or-drop, get_or_past}
use Rattle.std.proofs.lemmas.Bool.{cases_eq, cases_lt}
use Rattle.snapshot.specs.Numbers.{u16_at, u32_at}
use Rattle.snapshot.specs.Sections.{field, entries}
use Rattle.snapshot.specs.Header.{section}
use Rattle.snapshot.specs.declared.header.Pair.{Pair}
use Rattle.snapshot.specs.Alone.{Bytes}

u16_below : (bs : List ℕ) → Bytes bs → (i : ℕ) → u16_at bs i < 65536
unfolding u16_at
u16_below bs t i = omega (arith, t i, t (i + 1))

u16_bytes : (a b : List ℕ) → Bytes a → Bytes b → (i : ℕ) → u16_at a i ≡ u16_at b i →
    (get_or a i 0 ≡ get_or b i 0) × (get_or a (i + 1) 0 ≡ get_or b (i + 1) 0)
unfolding u16_at
u16_bytes a b s t i e = let p = s i in let q = t i in (omega arith, omega arith)

pub u32_halves : (a b : List ℕ) → Bytes a → Bytes b → (i : ℕ) → u32_at a i ≡ u32_at b i →
    (u16_at a i ≡ u16_at b i) × (u16_at a (i + 2) ≡ u16_at b (i + 2))
unfolding u32_at
u32_halves a b s t i e = let p = u16_below a s i in let q = u16_below b t i in (omega arith, omega arith)

-- numbers at even places below n tell the bytes there
pub same_below : (a b : List ℕ) → Bytes a → Bytes b → (n : ℕ) →
    ((h : ℕ) → 2 * h < n → u16_at a (2 * h) ≡ u16_at b (2 * h)) → (i : ℕ) → i < n → get_or a i 0 ≡ get_or b i 0
same_below a b s t n e i l = go (i / 2) (omega arith) (omega arith)
  where
    go : (h : ℕ) → 2 * h ≤ i → i ≤ 2 * h + 1 → get_or a i 0 ≡ get_or b i 0
    go h x y =
        let p = u16_bytes a b s t (2 * h) (e h (omega arith)) in
        elim (cases_eq i (2 * h)) [
          | inl q ↦ rw q p.0
          | inr q ↦ (let r : i ≡ 2 * h + 1 = omega arith in rw r p.1)
        ]

-- two sections whose entries agree field by field
eighth : (a b : List ℕ) (k h : ℕ) → field 8 a k 0 ≡ field 8 b k 0 → field 8 a k 2 ≡ field 8 b k 2 →
    field 8 a k 4 ≡ field 8 b k 4 → field 8 a k 6 ≡ field 8 b k 6 → k ≡ h / 4 →
    u16_at a (2 * h) ≡ u16_at b (2 * h)
eighth a b k h p q r s e = elim (cases_eq (2 * h) (8 * k + 0)) [
  | inl x ↦ rw x p
  | inr x ↦ elim (cases_eq (2 * h) (8 * k + 2)) [
    | inl y ↦ rw y q
    | inr y ↦ elim (cases_eq (2 * h) (8 * k + 4)) [
      | inl z ↦ rw z r
      | inr z ↦ (let w : 2 * h ≡ 8 * k + 6 = omega arith in rw w s)
    ]
  ]
]

fourth : (a b : List ℕ) (k h : ℕ) → field 4 a k 0 ≡ field 4 b k 0 → field 4 a k 2 ≡ field 4 b k 2 →
    k ≡ h / 2 → u16_at a (2 * h) ≡ u16_at b (2 * h)
fourth a b k h p q e = elim (cases_eq (2 * h) (4 * k + 0)) [
  | inl x ↦ rw x p
  | inr x ↦ (let w : 2 * h ≡ 4 * k + 2 = omega arith in rw w q)
]

pub same_eights : (a b : List ℕ) → Bytes a → Bytes b → length a ≡ length b → length a % 8 ≡ 0 →
    ((k : ℕ) → k < entries 8 a → (field 8 a k 0 ≡ field 8 b k 0) × (field 8 a k 2 ≡ field 8 b k 2) ×
    (field 8 a k 4 ≡ field 8 b k 4) × (field 8 a k 6 ≡ field 8 b k 6)) → a ≡ b
same_eights a b s t e w each = ext_get_or 0 a b e (same_below a b s t (length a) (λ h l.
    let p = each (h / 4) (omega arith) in
    eighth a b (h / 4) h p.0 p.1 p.2 p.3 (omega arith)))

pub same_fours : (a b : List ℕ) → Bytes a → Bytes b → length a ≡ length b → length a % 4 ≡ 0 →
    ((k : ℕ) → k < entries 4 a → (field 4 a k 0 ≡ field 4 b k 0) × (field 4 a k 2 ≡ field 4 b k 2)) → a ≡ b
same_fours a b s t e w each = ext_get_or 0 a b e (same_below a b s t (length a) (λ h l.
    let p = each (h / 2) (omega arith) in
    fourth a b (h / 2) h p.0 p.1 (omega arith)))

-- parts of bytes are bytes
pub bytes_drop : (n : ℕ) (bs : List ℕ) → Bytes bs → Bytes (drop n bs)
bytes_drop n bs t k = rw get_or-drop (t (n + k))

bytes_take : (n : ℕ) (bs : List ℕ) → Bytes bs → Bytes (take n bs)
bytes_take n bs t k = elim (cases_lt k n) [
  | inl l ↦ rw (get_or-take n bs k 0 l) (t k)
  | inr l ↦ rw (get_or_past (take n bs) k 0 (simp length-take (omega arith))) (omega arith)
]

pub bytes_section : (bs : List ℕ) (p : Pair) → Bytes bs → Bytes (section bs p)
bytes_section bs p t = bytes_take p.size (drop p.offset bs) (bytes_drop p.offset bs t)

-- a byte of a section is one of the file
pub section_at : (bs : List ℕ) (p : Pair) (j : ℕ) → j < p.size →
    get_or (section bs p) j 0 ≡ get_or bs (p.offset + j) 0
section_at bs p j l = rw (get_or-take p.size (drop p.offset bs) j 0 l, get_or-drop p.offset bs j 0)
