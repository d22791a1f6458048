-- The tests of each kind of entry find the faults of its section.
use Rattle.std.proofs.Common.{◌≡◌, ℕ, zero, suc, ◌+◌, ◌*◌, ◌≤◌, true, not, ◌&&◌, List, drop, Option, refl, arith}
use Rattle.std.proofs.lemmas.List.{get_or-take, get_or-drop}
use Rattle.model.specs.declared.fault.Fault.{Fault}
use Rattle.snapshot.specs.Numbers.{u16_at, u32_at}
use Rattle.snapshot.specs.Sections.{field, entry, entries, has}
use Rattle.snapshot.specs.Entries.{cell_fits, root_fits, link_fits, ephemeron_fits, entry_fault, first_of}
use Rattle.snapshot.specs.Entries.{cell_entry_fault, root_entry_fault, link_entry_fault, ephemeron_entry_fault}
use Rattle.snapshot.specs.Entries.{cells_fault, roots_fault, links_fault, ephemerons_fault}

-- a field of an entry is the section's
pub u16_entry : (w k f : ℕ) (bs : List ℕ) → f + 2 ≤ w → u16_at (entry w bs k) f ≡ field w bs k f
unfolding u16_at
u16_entry w k f bs l =
    let e : w * k + (f + 1) ≡ w * k + f + 1 = omega arith in
    rw (
      get_or-take w (drop (w * k) bs) f 0 (omega arith),
      get_or-take w (drop (w * k) bs) (f + 1) 0 (omega arith),
      get_or-drop (w * k) bs f 0,
      get_or-drop (w * k) bs (f + 1) 0,
      e,
    )

pub u32_entry : (w k f : ℕ) (bs : List ℕ) → f + 4 ≤ w → u32_at (entry w bs k) f ≡ u32_at bs (w * k + f)
unfolding u32_at
u32_entry w k f bs l =
    let e : w * k + (f + 2) ≡ w * k + f + 2 = omega arith in
    rw (u16_entry w k f bs (omega arith), u16_entry w k (f + 2) bs (omega arith), e)

-- faults that are the same entry by entry are the same
first_same : (f g : ℕ → Option Fault) → ((k : ℕ) → f k ≡ g k) → (n : ℕ) → first_of f n ≡ first_of g n
unfolding first_of
first_same f g h zero = refl
first_same f g h (suc n) = rw (first_same f g h n, h n)

pub cells_judged : (cs : List ℕ) (i : ℕ) → first_of
    (entry_fault (λ e. cell_fits (u16_at e 0) (u16_at e 2) (u32_at e 4)) (λ _. true) (λ _. true) 8 cs i)
    (entries 8 cs) ≡ cells_fault cs i
cells_judged cs i = first_same _ (cell_entry_fault cs i)
    (λ k. rw (u16_entry 8 k 0 cs (omega arith), u16_entry 8 k 2 cs (omega arith), u32_entry 8 k 4 cs (omega arith)))
    (entries 8 cs)

pub roots_judged : (cs rs : List ℕ) (i : ℕ) → first_of
    (entry_fault (λ e. root_fits (u16_at e 0) (u16_at e 2)) (λ _. true) (λ e. has 8 cs (u16_at e 2)) 4 rs i)
    (entries 4 rs) ≡ roots_fault cs rs i
roots_judged cs rs i = first_same _ (root_entry_fault cs rs i)
    (λ k. rw (u16_entry 4 k 0 rs (omega arith), u16_entry 4 k 2 rs (omega arith)))
    (entries 4 rs)

pub links_judged : (cs rs ls : List ℕ) (i : ℕ) → first_of
    (entry_fault (λ e. link_fits (u16_at e 0) (u16_at e 2) (u16_at e 4) (u16_at e 6))
    (λ e. not (has 4 rs (u16_at e 0))) (λ e. has 8 cs (u16_at e 2) && has 8 cs (u16_at e 4)) 8 ls i)
    (entries 8 ls) ≡ links_fault cs rs ls i
links_judged cs rs ls i = first_same _ (link_entry_fault cs rs ls i)
    (λ k. rw (
      u16_entry 8 k 0 ls (omega arith),
      u16_entry 8 k 2 ls (omega arith),
      u16_entry 8 k 4 ls (omega arith),
      u16_entry 8 k 6 ls (omega arith),
    ))
    (entries 8 ls)

pub ephemerons_judged : (cs rs ls es : List ℕ) (i : ℕ) → first_of
    (entry_fault (λ e. ephemeron_fits (u16_at e 0) (u16_at e 2) (u16_at e 4) (u16_at e 6))
    (λ e. not (has 4 rs (u16_at e 0)) && not (has 8 ls (u16_at e 0)))
    (λ e. has 8 cs (u16_at e 2) && (has 8 cs (u16_at e 4) && has 8 cs (u16_at e 6))) 8 es i)
    (entries 8 es) ≡ ephemerons_fault cs rs ls es i
ephemerons_judged cs rs ls es i = first_same _ (ephemeron_entry_fault cs rs ls es i)
    (λ k. rw (
      u16_entry 8 k 0 es (omega arith),
      u16_entry 8 k 2 es (omega arith),
      u16_entry 8 k 4 es (omega arith),
      u16_entry 8 k 6 es (omega arith),
    ))
    (entries 8 es)
