-- Two files without fault that show one heap are one file.
use Rattle.std.proofs.Common.{◌≡◌, ℕ, zero, suc, ◌+◌, ◌-◌, ◌*◌, ◌/◌, ◌%◌, ◌<◌, ◌≤◌, true, eqb, List, length, get_or, drop, None, Option, sym, ap, ◌∙◌, inl, inr, arith}
use Rattle.std.proofs.lemmas.List.{ext_get_or, get_or-drop}
use Rattle.std.proofs.lemmas.Bool.{cases_lt, cases_eq, eqb-true}
use Rattle.model.specs.Meaning.{Meaning}
use Rattle.snapshot.specs.declared.header.Pair.{Pair}
use Rattle.snapshot.specs.declared.header.Layout.{Layout}
use Rattle.snapshot.specs.Numbers.{u16_at, u32_at}
use Rattle.snapshot.specs.Header.{rows_of, layout_of, end, section, lead, lengths_fault, header_fault}
use Rattle.snapshot.specs.Entries.{entries_fault}
use Rattle.snapshot.specs.Laid.{cell_in, record_in, table, laid_down, file_fault}
use Rattle.snapshot.specs.Alone.{Bytes}
use Rattle.model.proofs.Faults.{first_none}
use Rattle.snapshot.proofs.Rows.{lengths_by_row, whole_at}
use Rattle.snapshot.proofs.Tables.{table_at}
use Rattle.snapshot.proofs.Shown.{four}
use Rattle.snapshot.proofs.Opened.{Placed, Headed, headed, section_length, Clean, clean}
use Rattle.snapshot.proofs.Halves.{u32_halves, same_below, bytes_drop, bytes_section, section_at}
use Rattle.snapshot.proofs.Owned.{cells_same, roots_same, links_same, ephemerons_same}

-- each section holds whole entries
record Whole (l : Layout) : Type 0 where
  cells : l.cells.size % 8 ≡ 0
  roots : l.roots.size % 4 ≡ 0
  links : l.links.size % 8 ≡ 0
  ephemerons : l.ephemerons.size % 8 ≡ 0

whole : (l : Layout) → lengths_fault l ≡ None → Whole l
whole l e =
    let rows = sym (lengths_by_row l) ∙ e in
    record {
      cells = whole_at (rows_of l) rows 0 (omega arith);
      roots = whole_at (rows_of l) rows 1 (omega arith);
      links = whole_at (rows_of l) rows 2 (omega arith);
      ephemerons = whole_at (rows_of l) rows 3 (omega arith);
    }

-- what is known of a file without fault
record Sound (bs : List ℕ) : Type 0 where
  head : Headed bs
  multiples : Whole (layout_of bs)
  entries : Clean (layout_of bs) (section bs (layout_of bs).cells) (section bs (layout_of bs).roots)
      (section bs (layout_of bs).links) (section bs (layout_of bs).ephemerons)

sound : (bs : List ℕ) → file_fault bs ≡ None → Sound bs
sound bs e =
    let l = layout_of bs in
    let p = first_none (header_fault bs) (entries_fault l (section bs l.cells) (section bs l.roots)
    (section bs l.links) (section bs l.ephemerons)) e in
    let h = headed bs p.0 in
    record {
      head = h;
      multiples = whole l h.whole;
      entries = clean l (section bs l.cells) (section bs l.roots) (section bs l.links)
          (section bs l.ephemerons) p.1;
    }

-- how long each section is
record Sized (bs : List ℕ) : Type 0 where
  cells : length (section bs (layout_of bs).cells) ≡ (layout_of bs).cells.size
  roots : length (section bs (layout_of bs).roots) ≡ (layout_of bs).roots.size
  links : length (section bs (layout_of bs).links) ≡ (layout_of bs).links.size
  ephemerons : length (section bs (layout_of bs).ephemerons) ≡ (layout_of bs).ephemerons.size

sized : (bs : List ℕ) → Placed (layout_of bs) (length bs) → Sized bs
sized bs p = record {
  cells = section_length bs (layout_of bs).cells (omega arith);
  roots = section_length bs (layout_of bs).roots (omega arith);
  links = section_length bs (layout_of bs).links (omega arith);
  ephemerons = section_length bs (layout_of bs).ephemerons (omega arith);
}

-- tables that are equal are so at each number
table_same : {A : Type 0} (n : ℕ) (f g : ℕ → Option A) → table n f ≡ table n g → (i : ℕ) → i < n → f i ≡ g i
table_same {A} n f g e i l =
    sym (table_at n f i l) ∙ (ap (λ (xs : List (Option A)). get_or xs i None) e ∙ table_at n g i l)

-- the sections of two files
record Shared (a b : List ℕ) : Type 0 where
  cells : section a (layout_of a).cells ≡ section b (layout_of b).cells
  roots : section a (layout_of a).roots ≡ section b (layout_of b).roots
  links : section a (layout_of a).links ≡ section b (layout_of b).links
  ephemerons : section a (layout_of a).ephemerons ≡ section b (layout_of b).ephemerons

shared : (a b : List ℕ) → Bytes a → Bytes b → Sound a → Sound b → laid_down a ≡ laid_down b → Shared a b
shared a b t u f g e =
    let l = layout_of a in
    let m = layout_of b in
    let p = sized a f.head.places in
    let q = sized b g.head.places in
    let v = f.multiples in
    let w = g.multiples in
    let same-cells = table_same 1024 (cell_in (section a l.cells)) (cell_in (section b m.cells))
    (ap (λ (h : Meaning). h.cells) e) in
    let same-records = table_same 4096
    (record_in (section a l.roots) (section a l.links) (section a l.ephemerons))
    (record_in (section b m.roots) (section b m.links) (section b m.ephemerons))
    (ap (λ (h : Meaning). h.records) e) in
    record {
      cells = cells_same (section a l.cells) (section b m.cells) l.cells.offset m.cells.offset
          (bytes_section a l.cells t) (bytes_section b m.cells u)
          (rw p.cells v.cells) (rw q.cells w.cells)
          f.entries.cells g.entries.cells same-cells;
      roots = roots_same (section a l.cells) (section a l.roots) (section a l.links)
          (section a l.ephemerons)
          (section b m.cells) (section b m.roots) (section b m.links) (section b m.ephemerons)
          l.roots.offset m.roots.offset
          (bytes_section a l.roots t) (bytes_section b m.roots u)
          (rw p.roots v.roots) (rw q.roots w.roots)
          f.entries.roots g.entries.roots same-records;
      links = links_same (section a l.cells) (section a l.roots) (section a l.links)
          (section a l.ephemerons)
          (section b m.cells) (section b m.roots) (section b m.links) (section b m.ephemerons)
          l.links.offset m.links.offset
          (bytes_section a l.links t) (bytes_section b m.links u)
          (rw p.links v.links) (rw q.links w.links)
          f.entries.links g.entries.links same-records;
      ephemerons = ephemerons_same (section a l.cells) (section a l.roots) (section a l.links)
          (section a l.ephemerons)
          (section b m.cells) (section b m.roots) (section b m.links) (section b m.ephemerons)
          l.ephemerons.offset m.ephemerons.offset
          (bytes_section a l.ephemerons t) (bytes_section b m.ephemerons u)
          (rw p.ephemerons v.ephemerons) (rw q.ephemerons w.ephemerons)
          f.entries.ephemerons g.entries.ephemerons same-records;
    }

-- bytes of a section that lies at one place in both
region : (a b : List ℕ) (p q : Pair) → p.offset ≡ q.offset → p.size ≡ q.size → section a p ≡ section b q →
    (i : ℕ) → p.offset ≤ i → i < end p → get_or a i 0 ≡ get_or b i 0
region a b p q e f s i l m = go (i - p.offset) (omega arith) (omega arith) (omega arith)
  where
    go : (j : ℕ) → j < p.size → i ≡ p.offset + j → i ≡ q.offset + j → get_or a i 0 ≡ get_or b i 0
    go j n x y =
        ap (λ (k : ℕ). get_or a k 0) x
        ∙ (sym (section_at a p j n)
        ∙ (ap (λ (xs : List ℕ). get_or xs j 0) s
        ∙ (section_at b q j (omega arith)
        ∙ ap (λ (k : ℕ). get_or b k 0) (sym y))))

-- the lead bytes
lead_same : (a b : List ℕ) → lead a ≡ true → lead b ≡ true → (i : ℕ) → i < 4 → get_or a i 0 ≡ get_or b i 0
lead_same a b e f i l = go i l
  where
    parts : (c : List ℕ) → lead c ≡ true →
        (get_or c 0 0 ≡ 69) × (get_or c 1 0 ≡ 72) × (get_or c 2 0 ≡ 1) × (get_or c 3 0 ≡ 4)
    parts c h =
        let p = four (eqb (get_or c 0 0) 69) (eqb (get_or c 1 0) 72) (eqb (get_or c 2 0) 1)
        (eqb (get_or c 3 0) 4) h in
        (eqb-true _ _ p.0, eqb-true _ _ p.1, eqb-true _ _ p.2, eqb-true _ _ p.3)

    go : (i : ℕ) → i < 4 → get_or a i 0 ≡ get_or b i 0
    go zero m = (parts a e).0 ∙ sym (parts b f).0
    go (suc zero) m = (parts a e).1 ∙ sym (parts b f).1
    go (suc (suc zero)) m = (parts a e).2 ∙ sym (parts b f).2
    go (suc (suc (suc zero))) m = (parts a e).3 ∙ sym (parts b f).3
    go (suc (suc (suc (suc k)))) m = absurd (omega arith)

-- the eight numbers of the pairs
eight : (P : ℕ → Type 0) → P 0 → P 1 → P 2 → P 3 → P 4 → P 5 → P 6 → P 7 → (k : ℕ) → k < 8 → P k
eight P a b c d e f g h zero l = a
eight P a b c d e f g h (suc zero) l = b
eight P a b c d e f g h (suc (suc zero)) l = c
eight P a b c d e f g h (suc (suc (suc zero))) l = d
eight P a b c d e f g h (suc (suc (suc (suc zero)))) l = e
eight P a b c d e f g h (suc (suc (suc (suc (suc zero))))) l = f
eight P a b c d e f g h (suc (suc (suc (suc (suc (suc zero)))))) l = g
eight P a b c d e f g h (suc (suc (suc (suc (suc (suc (suc zero))))))) l = h
eight P a b c d e f g h (suc (suc (suc (suc (suc (suc (suc (suc k)))))))) l = absurd (omega arith)

-- bytes of which every 32 bits are the same below n
same_quads : (a b : List ℕ) → Bytes a → Bytes b → ((k : ℕ) → k < 8 → u32_at a (4 * k) ≡ u32_at b (4 * k)) →
    (i : ℕ) → i < 32 → get_or a i 0 ≡ get_or b i 0
same_quads a b t u e i l = same_below a b t u 32 half i l
  where
    half : (h : ℕ) → 2 * h < 32 → u16_at a (2 * h) ≡ u16_at b (2 * h)
    half h m =
        let p = u32_halves a b t u (4 * (h / 2)) (e (h / 2) (omega arith)) in
        elim (cases_eq (2 * h) (4 * (h / 2))) [
          | inl x ↦ ap (u16_at a) x ∙ (p.0 ∙ ap (u16_at b) (sym x))
          | inr x ↦
              (let y : 2 * h ≡ 4 * (h / 2) + 2 = omega arith in
              ap (u16_at a) y ∙ (p.1 ∙ ap (u16_at b) (sym y)))
        ]

-- layouts number by number
record Level (l m : Layout) : Type 0 where
  cells_at : l.cells.offset ≡ m.cells.offset
  cells_size : l.cells.size ≡ m.cells.size
  roots_at : l.roots.offset ≡ m.roots.offset
  roots_size : l.roots.size ≡ m.roots.size
  links_at : l.links.offset ≡ m.links.offset
  links_size : l.links.size ≡ m.links.size
  ephemerons_at : l.ephemerons.offset ≡ m.ephemerons.offset
  ephemerons_size : l.ephemerons.size ≡ m.ephemerons.size

level : (a b : List ℕ) → Sound a → Sound b → Shared a b → Level (layout_of a) (layout_of b)
level a b f g s =
    let p = sized a f.head.places in
    let q = sized b g.head.places in
    let x = f.head.places in
    let y = g.head.places in
    let c : (layout_of a).cells.size ≡ (layout_of b).cells.size = sym p.cells ∙
    (ap length s.cells ∙ q.cells) in
    let r : (layout_of a).roots.size ≡ (layout_of b).roots.size = sym p.roots ∙
    (ap length s.roots ∙ q.roots) in
    let k : (layout_of a).links.size ≡ (layout_of b).links.size = sym p.links ∙
    (ap length s.links ∙ q.links) in
    let d : (layout_of a).ephemerons.size ≡ (layout_of b).ephemerons.size =
    sym p.ephemerons ∙ (ap length s.ephemerons ∙ q.ephemerons) in
    record {
      cells_at = omega arith;
      cells_size = c;
      roots_at = omega arith;
      roots_size = r;
      links_at = omega arith;
      links_size = k;
      ephemerons_at = omega arith;
      ephemerons_size = d;
    }

pairs_same : (a b : List ℕ) → Bytes a → Bytes b → Level (layout_of a) (layout_of b) →
    (i : ℕ) → 4 ≤ i → i < 36 → get_or a i 0 ≡ get_or b i 0
pairs_same a b t u v i l m = go (i - 4) (omega arith) (omega arith)
  where
    go : (j : ℕ) → j < 32 → i ≡ 4 + j → get_or a i 0 ≡ get_or b i 0
    go j n x =
        ap (λ (k : ℕ). get_or a k 0) x
        ∙ (sym (get_or-drop 4 a j 0)
        ∙ (same_quads (drop 4 a) (drop 4 b) (bytes_drop 4 a t) (bytes_drop 4 b u)
        (eight (λ k. u32_at (drop 4 a) (4 * k) ≡ u32_at (drop 4 b) (4 * k))
        v.cells_at v.cells_size v.roots_at v.roots_size
        v.links_at v.links_size v.ephemerons_at v.ephemerons_size) j n
        ∙ (get_or-drop 4 b j 0
        ∙ ap (λ (k : ℕ). get_or b k 0) (sym x))))

pub one_file : (a b : List ℕ) → Bytes a → Bytes b → file_fault a ≡ None → file_fault b ≡ None →
    laid_down a ≡ laid_down b → a ≡ b
one_file a b t u x y e = whole_file (sound a x) (sound b y)
  where
    bytes : (f : Sound a) (g : Sound b) → Shared a b → Level (layout_of a) (layout_of b) →
        (i : ℕ) → i < length a → get_or a i 0 ≡ get_or b i 0
    bytes f g s v i l =
        let p = f.head.places in
        elim (cases_lt i 4) [
          | inl m ↦ lead_same a b f.head.led g.head.led i m
          | inr m₁ ↦ elim (cases_lt i 36) [
            | inl m ↦ pairs_same a b t u v i m₁ m
            | inr m₂ ↦ elim (cases_lt i (layout_of a).roots.offset) [
              | inl m ↦ region a b (layout_of a).cells (layout_of b).cells
                  v.cells_at v.cells_size s.cells i (omega arith) (omega arith)
              | inr m₃ ↦ elim (cases_lt i (layout_of a).links.offset) [
                | inl m ↦ region a b (layout_of a).roots (layout_of b).roots
                    v.roots_at v.roots_size s.roots i m₃ (omega arith)
                | inr m₄ ↦ elim (cases_lt i (layout_of a).ephemerons.offset) [
                  | inl m ↦ region a b (layout_of a).links (layout_of b).links
                      v.links_at v.links_size s.links i m₄ (omega arith)
                  | inr m₅ ↦ region a b (layout_of a).ephemerons (layout_of b).ephemerons
                      v.ephemerons_at v.ephemerons_size s.ephemerons i m₅ (omega arith)
                ]
              ]
            ]
          ]
        ]

    whole_file : Sound a → Sound b → a ≡ b
    whole_file f g =
        let s = shared a b t u f g e in
        let v = level a b f g s in
        let p = f.head.places in
        let q = g.head.places in
        ext_get_or 0 a b (omega arith) (bytes f g s v)
