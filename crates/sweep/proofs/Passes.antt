-- What one turn of the loop that lists numbers does, what is left when it ends, and how the numbers
-- of the filled places that are picked stand in a list of numbers.
use Rattle.std.proofs.Common.{◌≡◌, ℕ, suc, ◌+◌, ◌<◌, ◌≤◌, Bool, true, false, cond, List, [], ◌∷◌, ◌++◌, filter, length, get_or, take, drop, set, Some, None, Option, sym, refl, ap, ◌∙◌, append-nil, arith}
use Rattle.std.specs.List.{range_with_len}
use Rattle.std.proofs.lemmas.List.{take_more_set, take-append-drop, length-take-le, drop-set-lt, drop-drop, length-set, map-id}
use Rattle.std.proofs.lemmas.List.FromFn.{filter_of_map_range_with_len_more}
use Rattle.model.specs.Sweeping.{picked, over}
use Rattle.sweep.specs.Listing.{picks}

-- the numbers that pass the test, listed in the front of a list
module _ (test : ℕ → Bool) (old : List ℕ) where
  -- the count goes no further than the numbers do, and the rest of the list stands
  pub record Listed (i n : ℕ) (list : List ℕ) : Type 0 where
    pub few : n ≤ i
    pub wide : length list ≡ length old
    pub front : take n list ≡ filter test (range_with_len 0 i)
    pub stands : drop n list ≡ drop n old

  pass_more : (i : ℕ) → filter test (range_with_len 0 (i + 1))
      ≡ filter test (range_with_len 0 i) ++ cond (test i) (i ∷ []) []
  pass_more i =
      simp map-id at (filter_of_map_range_with_len_more test (λ n. n) 0 i i (omega arith))

  -- a turn: a number that passes is noted, and the count goes up
  module _ (i n : ℕ) (list : List ℕ) (so_far : Listed i n list) where
    pub list_passed : test i ≡ false → Listed (i + 1) n list
    list_passed e =
        let front = so_far.front in
        let more = pass_more i in
        let nothing = append-nil (filter test (range_with_len 0 i)) in
        record {
          few = omega (arith, so_far.few);
          wide = so_far.wide;
          front = cc;
          stands = so_far.stands;
        }

    pub list_noted : i < length old → test i ≡ true → Listed (i + 1) (n + 1) (set list n i)
    list_noted room e =
        let front = so_far.front in
        let more = pass_more i in
        let noted = take_more_set list n i (omega (arith, so_far.few, so_far.wide)) in
        record {
          few = omega (arith, so_far.few);
          wide = length-set list n i ∙ so_far.wide;
          front = cc;
          stands = drop-set-lt (n + 1) list n i (omega arith) ∙ sym (drop-drop 1 n list)
              ∙ ap (drop 1) so_far.stands ∙ drop-drop 1 n old;
        }

  -- what is left
  module _ (i n : ℕ) (list : List ℕ) (so_far : Listed i n list) (fits : i ≤ length old) where
    pub list_counts : n ≡ length (filter test (range_with_len 0 i))
    list_counts =
        let wide = so_far.wide in
        let few = so_far.few in
        sym (length-take-le n list (omega arith)) ∙ ap length so_far.front

    pub list_over : list ≡ over (filter test (range_with_len 0 i)) old
    list_over =
        let whole = take-append-drop n list in
        let front = so_far.front in
        let stands = so_far.stands in
        let count = list_counts in
        cc

-- the numbers of the places that are filled and picked are those that pass
module _ {A : Type 0} (pick : ℕ → A → Bool) where
  module _ (at : ℕ → Option A) where
    passes : ℕ → Bool
    passes n = picks pick n (at n)

    one_more : (i : ℕ) (o : Option A) (xs : List (Option A)) → at i ≡ o
        → filter passes (range_with_len (i + 1) (length xs)) ≡ picked pick (i + 1) xs
        → filter passes (range_with_len i (length (o ∷ xs))) ≡ picked pick i (o ∷ xs)
    unfolding passes picked
    one_more i None xs is rest = rw (is, rest)
    one_more i (Some y) xs is rest = rw (is, rest)

    all_picked : (i : ℕ) (xs : List (Option A))
        → ((k : ℕ) → k < length xs → at (i + k) ≡ get_or xs k None)
        → filter passes (range_with_len i (length xs)) ≡ picked pick i xs
    unfolding picked
    all_picked i [] e = refl
    all_picked i (x ∷ xs) e =
        let first : i ≡ i + 0 = omega arith in
        let here : at i ≡ x = ap at first ∙ e 0 (omega arith) in
        one_more i x xs here
        (all_picked (i + 1) xs
        (λ k l.
        let next : i + 1 + k ≡ i + suc k = omega arith in
        ap at next ∙ e (suc k) (omega arith)))

  pub passed : (xs : List (Option A)) (n : ℕ) → length xs ≡ n
      → filter (λ k. picks pick k (get_or xs k None)) (range_with_len 0 n) ≡ picked pick 0 xs
  unfolding passes
  passed xs n wide =
      rw (← wide)
      (all_picked (λ k. get_or xs k None) 0 xs
      (λ k l.
      let same : 0 + k ≡ k = omega arith in
      ap (λ (n : ℕ). get_or xs n None) same))
