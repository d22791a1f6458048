-- What one turn of each loop does, and what is left when it ends.
use Rattle.std.proofs.Common.{◌≡◌, ℕ, zero, suc, ◌+◌, ◌<◌, ◌≤◌, Bool, true, false, cond, List, [], ◌∷◌, ◌++◌, length, get_or, reverse, drop, set, replicate, Some, None, Option, sym, refl, ap, ◌∙◌, append_assoc, append-nil, add-one, arith}
use Rattle.std.specs.List.{refill}
use Rattle.std.proofs.lemmas.List.{at_drop_more, at_drop_all, take_at, reverse-append}
use Rattle.model.specs.declared.row.Row.{Row}
use Rattle.model.specs.Meaning.{Meaning, record_at}
use Rattle.model.specs.Settling.{Rows}
use Rattle.model.specs.Explaining.{sources_of, marked, placed, in_order, cells_by_turn, explain, steps_of}
use Rattle.explain.specs.Walking.{Cells, holder_at}

-- noting the cells at their turns
module _ {G : Type 0} (rows : Rows G) (order : List ℕ) (c : ℕ) where
  pub order_more : c < length rows
      → in_order c (drop c rows) order
      ≡ in_order (c + 1) (drop (c + 1) rows) (placed c (get_or rows c None) order)
  unfolding in_order
  order_more l = at_drop_more (λ z. in_order c z order) rows c None l

  pub order_all : length rows ≤ c → in_order c (drop c rows) order ≡ order
  unfolding in_order
  order_all l = at_drop_all (λ z. in_order c z order) rows c l

pub order_first : {G : Type 0} (rows : Rows G) → in_order 0 rows (replicate 1024 0) ≡ cells_by_turn rows
unfolding cells_by_turn
order_first rows = refl

-- every number that is noted is a cell's
cells_set : (order : List ℕ) (i c : ℕ) → Cells order → c < 1024 → Cells (set order i c)
cells_set [] i c p l t = p t
cells_set (x ∷ xs) zero c p l zero = l
cells_set (x ∷ xs) zero c p l (suc t) = p (suc t)
cells_set (x ∷ xs) (suc i) c p l zero = p zero
cells_set (x ∷ xs) (suc i) c p l (suc t) = cells_set xs i c (λ u. p (suc u)) l t

pub cells_placed : {G : Type 0} (c : ℕ) (x : Option (Row G)) (order : List ℕ) → Cells order → c < 1024
    → Cells (placed c x order)
cells_placed c None order p l = p
cells_placed c (Some row) order p l = cells_set order row.turn c p l

pub cells_first : (n : ℕ) → Cells (replicate n 0)
cells_first zero t = omega arith
cells_first (suc n) zero = omega arith
cells_first (suc n) (suc t) = cells_first n t

-- the marks after cell c has had its turn
abbrev pub marks_next : {G : Type 0} → Meaning → Rows G → ℕ → List Bool → List Bool
marks_next h rows c marks =
    cond (get_or marks c false) (marked (sources_of (record_at h (holder_at rows c))) marks) marks

-- .. and the steps found
abbrev pub steps_next : {G : Type 0} → Rows G → ℕ → List Bool → List ℕ → List ℕ
steps_next rows c marks steps = cond (get_or marks c false) (holder_at rows c ∷ steps) steps

-- one more step before those found
pub found_more : (found : List ℕ) (r : ℕ) → reverse (found ++ r ∷ []) ≡ r ∷ reverse found
found_more found r = reverse-append found (r ∷ [])

-- a list that is written whole is what was written
pub refilled : (xs ws : List ℕ) → length ws ≡ length xs → refill (length xs) xs ws ≡ ws
refilled xs ws e = take_at ws (drop (length ws) xs) (length xs) e

-- what the turn of a cell does
module _ {G : Type 0} (h : Meaning) (rows : Rows G) (c : ℕ) (marks after : List Bool) (steps rest : List ℕ) where
  module _ (r : ℕ) (on : get_or marks c false ≡ true) (is-holder : r ≡ holder_at rows c) where
    pub marks_more : after ≡ marked (sources_of (record_at h r)) marks → after ≡ marks_next h rows c marks
    marks_more e = rw (on, ← is-holder) e

    pub steps_more : steps ≡ r ∷ rest → steps ≡ steps_next rows c marks rest
    steps_more e = rw (on, ← is-holder) e

  module _ (off : get_or marks c false ≡ false) where
    pub marks_stand : after ≡ marks → after ≡ marks_next h rows c marks
    marks_stand e = rw off e

    pub steps_stand : steps ≡ rest → steps ≡ steps_next rows c marks rest
    steps_stand e = rw off e

-- the walk: what is left to explain goes before the steps found so far
module _ {G : Type 0} (h : Meaning) (rows : Rows G) (order : List ℕ) where
  walk_turn : (t : ℕ) (marks : List Bool) (rest : List ℕ)
      → explain h rows order (suc t) marks ++ rest
      ≡ explain h rows order t (marks_next h rows (get_or order t 0) marks)
      ++ steps_next rows (get_or order t 0) marks rest
  unfolding explain
  walk_turn t marks rest = go (get_or marks (get_or order t 0) false)
    where
      r : ℕ
      r = holder_at rows (get_or order t 0)

      more : List Bool
      more = marked (sources_of (record_at h r)) marks

      go : (b : Bool)
          → cond b (explain h rows order t more ++ (r ∷ [])) (explain h rows order t marks) ++ rest
          ≡ explain h rows order t (cond b more marks) ++ cond b (r ∷ rest) rest
      go true = append_assoc (explain h rows order t more) (r ∷ []) rest
      go false = refl

  pub walk_more : (t u : ℕ) (marks : List Bool) (rest : List ℕ) → t ≡ u + 1
      → explain h rows order t marks ++ rest
      ≡ explain h rows order u (marks_next h rows (get_or order u 0) marks)
      ++ steps_next rows (get_or order u 0) marks rest
  walk_more t u marks rest e =
      ap (λ (n : ℕ). explain h rows order n marks ++ rest) (e ∙ add-one u) ∙ walk_turn u marks rest

  pub walk_end : (t : ℕ) (marks : List Bool) (rest whole : List ℕ) → t ≡ 0
      → explain h rows order t marks ++ rest ≡ whole → rest ≡ whole
  unfolding explain
  walk_end t marks rest whole e f = ap (λ (n : ℕ). explain h rows order n marks ++ rest) (sym e) ∙ f

pub walk_first : {G : Type 0} (h : Meaning) (rows : Rows G) (order : List ℕ) (c t : ℕ)
    → order ≡ cells_by_turn rows
    → explain h rows order (t + 1) (set (replicate 1024 false) c true) ++ [] ≡ steps_of h rows c t
unfolding steps_of
walk_first h rows order c t e =
    append-nil _ ∙ ap (λ (z : List ℕ). explain h rows z (t + 1) (set (replicate 1024 false) c true)) e
