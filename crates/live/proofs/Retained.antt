-- What a test leaves of a table, place by place, and what that is of the cells and of the records.
use Rattle.std.proofs.Common.{◌≡◌, ℕ, ◌+◌, ◌<◌, ◌≤◌, Bool, true, false, cond, List, [], ◌∷◌, ◌++◌, map, length, get_or, take, drop, set, Some, None, Option, refl, append_assoc, arith}
use Rattle.std.proofs.lemmas.List.{at_drop_more, at_drop_all, take_more_set, drop-set-lt, take_all, append-nil, set-get_or}
use Rattle.model.specs.declared.record.Record.{Record}
use Rattle.model.specs.Meaning.{Meaning, heap_of, WellFormed}
use Rattle.model.specs.Sweeping.{cells_kept, names_kept, record_kept, emptied}
use Rattle.laws.proofs.Emptied.{emptied_formed}
use Rattle.live.specs.Retaining.{retained_at, retained}

module _ {A : Type 0} (keep : ℕ → A → Bool) (xs whole : List (Option A)) (i : ℕ)
    (before : take i xs ++ retained keep i (drop i xs) ≡ whole) where
  -- a turn: what becomes of place i
  module _ (ys : List (Option A)) (d : Option A) (within : i < length xs) where
    becomes : (x : Option A) → x ≡ retained_at keep i (get_or xs i d) → ys ≡ set xs i x
        → take (i + 1) ys ++ retained keep (i + 1) (drop (i + 1) ys) ≡ whole
    unfolding retained
    becomes x k e =
        let front = take_more_set xs i x within in
        let back = drop-set-lt (i + 1) xs i x (omega arith) in
        let joined = append_assoc (take i xs) (x ∷ []) (retained keep (i + 1) (drop (i + 1) xs)) in
        let left = at_drop_more (retained keep i) xs i d within in
        cc

    pub empties : (x : A) → get_or xs i d ≡ Some x → keep i x ≡ false → ys ≡ set xs i None
        → take (i + 1) ys ++ retained keep (i + 1) (drop (i + 1) ys) ≡ whole
    empties x is k e = becomes None (rw (is, k)) e

    leaves : get_or xs i d ≡ retained_at keep i (get_or xs i d) → ys ≡ xs
        → take (i + 1) ys ++ retained keep (i + 1) (drop (i + 1) ys) ≡ whole
    leaves k e =
        let same = set-get_or xs i d in
        becomes (get_or xs i d) k (cc)

    pub keeps : (x : A) → get_or xs i d ≡ Some x → keep i x ≡ true → ys ≡ xs
        → take (i + 1) ys ++ retained keep (i + 1) (drop (i + 1) ys) ≡ whole
    keeps x is k e = leaves (rw (is, k)) e

    pub passes : get_or xs i d ≡ None → ys ≡ xs
        → take (i + 1) ys ++ retained keep (i + 1) (drop (i + 1) ys) ≡ whole
    passes is e = leaves (rw is) e

  pub all_done : length xs ≤ i → xs ≡ whole
  unfolding retained
  all_done l =
      let front = take_all i xs l in
      let back = at_drop_all (retained keep i) xs i l in
      let joined = append-nil xs in
      cc

module _ (keep : ℕ → Bool) where
  cell_retained : (i : ℕ) (c : Option ℕ) → retained_at (λ c _. keep c) i c ≡ cond (keep i) c None
  cell_retained i None = cond_same (keep i)
    where
      cond_same : (b : Bool) → ◌≡◌ {A = Option ℕ} None (cond b None None)
      cond_same true = refl
      cond_same false = refl
  cell_retained i (Some n) = refl

  record_retained : (i : ℕ) (r : Option Record) → retained_at (λ _. names_kept keep) i r ≡ record_kept keep r
  record_retained i None = refl
  record_retained i (Some r) = refl

  cells_retained : (i : ℕ) (cs : List (Option ℕ)) → retained (λ c _. keep c) i cs ≡ cells_kept keep i cs
  unfolding retained cells_kept
  cells_retained i [] = refl
  cells_retained i (c ∷ cs) =
      let rest = cells_retained (i + 1) cs in
      let this : retained_at (λ c _. keep c) i c ≡ cond (keep i) c None = cell_retained i c in
      cc

  records_retained : (i : ℕ) (rs : List (Option Record))
      → retained (λ _. names_kept keep) i rs ≡ map (record_kept keep) rs
  unfolding retained
  records_retained i [] = refl
  records_retained i (r ∷ rs) =
      let rest = records_retained (i + 1) rs in
      let this : retained_at (λ _. names_kept keep) i r ≡ record_kept keep r = record_retained i r in
      cc

  -- the heap that is left, and why it is well-formed
  module _ (h : Meaning) (cs : List (Option ℕ)) (rs : List (Option Record))
      (is-cells : cs ≡ retained (λ c _. keep c) 0 h.cells)
      (is-records : rs ≡ retained (λ _. names_kept keep) 0 h.records) where
    pub heap_left : heap_of cs rs ≡ emptied keep h
    heap_left = rw (is-cells, is-records, cells_retained 0 h.cells, records_retained 0 h.records)

    pub formed_after : WellFormed h → WellFormed (heap_of cs rs)
    formed_after wf = rw heap_left (emptied_formed keep h wf)
