-- What `sweep` answers and leaves.
use Rattle.std.proofs.Common.{◌≡◌, ℕ, zero, suc, ◌≤◌, Bool, false, List, [], ◌∷◌, map, length, get_or, take, drop, None, Ok, Option, sym, refl, ap, ◌∙◌, subst}
use mathlib.Core.Path.{fun_ext}
use Rattle.std.proofs.lemmas.List.{take_at}
use Rattle.model.specs.Schemes.{Scheme, Lawful}
use Rattle.model.specs.Meaning.{Meaning, WellFormed}
use Rattle.model.specs.Settling.{Rows, graded}
use Rattle.model.specs.Grading.{grade_after}
use Rattle.model.specs.Sweeping.{within, kept, emptied, dropped_cells, cleared_records, over, sweep_fault}
use Rattle.model.specs.Sweeping.{sweep_answer, sweep_after, rows_swept, cells_swept, records_swept}
use Rattle.model.specs.Sweeping.{KeepsExactly, KeepsGrades, Lists, Dropped, Cleared}
use Rattle.laws.proofs.Lists.{lists_dropped, lists_cleared}
use Rattle.laws.proofs.Swept.{keeps_exactly, keeps_grades}
use Rattle.live.specs.Flagged.{flagged}
use Rattle.engine.proofs.Front.{filled_by, front_graded}

-- a flag is what is found of the row at its number
flag_at : {X : Type 0} (f : Option X → Bool) → f None ≡ false → (xs : List (Option X)) (c : ℕ)
    → flagged (map f xs) c ≡ f (get_or xs c None)
flag_at f e [] c = sym e
flag_at f e (x ∷ xs) zero = refl
flag_at f e (x ∷ xs) (suc c) = flag_at f e xs c

module _ {G : Type 0} (s : Scheme G) (law : Lawful s) (h : Meaning) (wf : WellFormed h) (limit : G)
    (lent after : Rows G) (cells records : List ℕ) (fine : sweep_fault lent cells records ≡ None)
    (enough : 1024 ≤ length lent)
    (is-after : after ≡ grade_after s h lent) (flags : List Bool)
    (marked : flags ≡ map (within s limit) (take 1024 after)) where
  same_kept : flagged flags ≡ kept s limit h
  same_kept =
      let front = front_graded s law h wf lent after enough is-after in
      let e : flags ≡ map (within s limit) (graded s h).rows =
      marked ∙ ap (map (within s limit)) front in
      ap flagged e ∙ fun_ext (λ c. flag_at (within s limit) refl (graded s h).rows c)

  pub answers : (n m : ℕ) → n ≡ length (dropped_cells (flagged flags) h)
      → m ≡ length (cleared_records (flagged flags) h)
      → Ok (record { cells = n; records = m }) ≡ sweep_answer s h limit lent cells records
  answers n m e f =
      let e' : n ≡ length (dropped_cells (kept s limit h) h) =
      e ∙ ap (λ (k : ℕ → Bool). length (dropped_cells k h)) same_kept in
      let f' : m ≡ length (cleared_records (kept s limit h) h) =
      f ∙ ap (λ (k : ℕ → Bool). length (cleared_records k h)) same_kept in
      rw fine (λ i. Ok (record { cells = e' i; records = f' i }))

  pub fills : after ≡ rows_swept s h limit lent cells records
  fills = rw fine (filled_by lent enough s h after is-after)

  -- the heap that is left
  module _ (left : Meaning) (is-left : left ≡ emptied (flagged flags) h) where
    is_emptied : left ≡ emptied (kept s limit h) h
    is_emptied = is-left ∙ ap (λ (k : ℕ → Bool). emptied k h) same_kept

    pub leaves : left ≡ sweep_after s h limit lent cells records
    leaves = rw fine is_emptied

    pub keeps : KeepsExactly s limit h left
    keeps = subst (KeepsExactly s limit h) (sym is_emptied) (keeps_exactly s law h wf limit)

    pub grades : KeepsGrades s limit h left
    grades = subst (KeepsGrades s limit h) (sym is_emptied) (keeps_grades s law h wf limit)

  -- the lists that are left, and how much of them is new
  named : (P : ℕ → Type 0) (xs old left : List ℕ) (n : ℕ) → left ≡ over xs old → n ≡ length xs
      → Lists P xs → Lists P (take n left)
  named P xs old left n e f l =
      let front : take n left ≡ xs = ap (take n) e ∙ take_at xs (drop (length xs) old) n (sym f) in
      subst (Lists P) (sym front) l

  module _ (left : List ℕ) (is-left : left ≡ over (dropped_cells (flagged flags) h) cells) where
    over_cells : left ≡ over (dropped_cells (kept s limit h) h) cells
    over_cells = is-left ∙ ap (λ (k : ℕ → Bool). over (dropped_cells k h) cells) same_kept

    pub lists_cells : left ≡ cells_swept s h limit lent cells records
    lists_cells = rw fine over_cells

    pub names_dropped : (n : ℕ) → n ≡ length (dropped_cells (flagged flags) h)
        → Lists (Dropped s limit h) (take n left)
    names_dropped n e =
        named (Dropped s limit h) (dropped_cells (kept s limit h) h) cells left n over_cells
        (e ∙ ap (λ (k : ℕ → Bool). length (dropped_cells k h)) same_kept) (lists_dropped s law h wf limit)

  module _ (left : List ℕ) (is-left : left ≡ over (cleared_records (flagged flags) h) records) where
    over_records : left ≡ over (cleared_records (kept s limit h) h) records
    over_records = is-left ∙ ap (λ (k : ℕ → Bool). over (cleared_records k h) records) same_kept

    pub lists_records : left ≡ records_swept s h limit lent cells records
    lists_records = rw fine over_records

    pub names_cleared : (n : ℕ) → n ≡ length (cleared_records (flagged flags) h)
        → Lists (Cleared s limit h) (take n left)
    names_cleared n e =
        named (Cleared s limit h) (cleared_records (kept s limit h) h) records left n over_records
        (e ∙ ap (λ (k : ℕ → Bool). length (cleared_records k h)) same_kept) (lists_cleared s law h wf limit)
