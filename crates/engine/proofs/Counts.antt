-- Counting the records that are ready, and what a pass adds to that count.
use Rattle.std.proofs.Common.{◌≡◌, ℕ, zero, suc, ◌+◌, ◌<◌, ◌≤◌, Bool, true, false, cond, ◌&&◌, List, [], ◌∷◌, length, get_or, drop, is_some, Some, None, Option, refl, ap, ◌∙◌, arith}
use Rattle.std.proofs.lemmas.List.{at_drop_more, at_drop_all}
use Rattle.model.specs.declared.record.Record.{Record}
use Rattle.model.specs.declared.record.Record.TheVariants.{Root, Link, Ephemeron}
use Rattle.model.specs.declared.row.Row.{Row}
use Rattle.model.specs.Schemes.{Scheme, Lawful}
use Rattle.model.specs.Meaning.{Meaning, WellFormed, record_at}
use Rattle.model.specs.Settling.{Rows, ready, given, with_grade, count_ready}
use Rattle.engine.specs.Working.{settled_rows, gives, wakes, visited}
use Rattle.engine.proofs.Loops.{count_from, after_visit, tally_more, tally_all}
use Rattle.engine.proofs.Passes.{size_for, Fine, visit_fine}

-- 1 where the record is ready
abbrev pub ready_one : {G : Type 0} → Rows G → Record → ℕ
ready_one rows rec = cond (ready rows rec) 1 0

-- a record gives a grade just where it is ready
pub given_ready : {G : Type 0} (s : Scheme G) (rows : Rows G) (n r : ℕ) (rec : Record)
    → is_some (given s rows n r rec) ≡ ready rows rec
given_ready s rows n r (Root t) = refl
given_ready {G} s rows n r (Link a t k) = go (get_or rows a None)
  where
    go : (x : Option (Row G)) → is_some (with_grade x (λ g. Some (s.along r n g k))) ≡ is_some x
    go None = refl
    go (Some row) = refl
given_ready {G} s rows n r (Ephemeron a b v) = go (get_or rows a None) (get_or rows b None)
  where
    go : (x y : Option (Row G))
        → is_some (with_grade x (λ g. with_grade y (λ k. Some (s.join r n g k)))) ≡ is_some x && is_some y
    go None y = refl
    go (Some row) None = refl
    go (Some row) (Some row') = refl

abbrev pub count_at : (Record → ℕ) → Option Record → ℕ
count_at f None = 0
count_at f (Some rec) = f rec

-- the sum of f over the filled records
unfoldable pub count_over : (Record → ℕ) → List (Option Record) → ℕ
count_over f [] = 0
count_over f (x ∷ xs) = count_at f x + count_over f xs

pub count_none : (xs : List (Option Record)) → count_over (λ rec. 0) xs ≡ 0
unfolding count_over
count_none [] = refl
count_none (None ∷ xs) = omega (arith, count_none xs)
count_none (Some rec ∷ xs) = omega (arith, count_none xs)

pub count_over_ready : {G : Type 0} (rows : Rows G) (xs : List (Option Record))
    → count_over (ready_one rows) xs ≡ count_ready rows xs
unfolding count_over count_ready
count_over_ready rows [] = refl
count_over_ready rows (None ∷ xs) = omega (arith, count_over_ready rows xs)
count_over_ready rows (Some rec ∷ xs) = omega (arith, count_over_ready rows xs)

-- the records from i on
module _ (f : Record → ℕ) (h : Meaning) where
  abbrev count_rest : ℕ → ℕ
  count_rest i = count_over f (drop i h.records)

  count_more : (i : ℕ) → i < length h.records
      → count_rest i ≡ count_at f (record_at h i) + count_rest (i + 1)
  unfolding count_over
  count_more i l = at_drop_more (λ xs. count_over f xs) h.records i None l

  count_all : (i : ℕ) → length h.records ≤ i → count_rest i ≡ 0
  unfolding count_over
  count_all i l = at_drop_all (λ xs. count_over f xs) h.records i l

one_where : (t u : Bool) (n : ℕ) → cond (cond t u false) 1 0 + n ≡ cond t (cond u 1 0) 0 + n
one_where true u n = refl
one_where false u n = refl

-- a pass that weighs what was not counted before counts every record that is ready
module _ {G : Type 0} (s : Scheme G) (law : Lawful s) (h : Meaning) (wf : WellFormed h)
    (just : Option ℕ) (base : Rows G) (wide : length base ≡ 1024) (was : Record → ℕ)
    (each : (rec : Record)
    → cond (wakes just rec) (ready_one base rec) 0 + was rec ≡ ready_one base rec) where
  each_at : (i : ℕ) (x : Option Record) (rows : Rows G) → settled_rows rows ≡ base
      → cond (visited s h just i x rows) 1 0 + count_at was x ≡ count_at (ready_one base) x
  each_at i None rows e = refl
  each_at i (Some rec) rows e =
      let now : Bool = is_some (gives s h rows i rec) in
      let f : now ≡ ready base rec =
      ap (λ (z : Rows G). is_some (given s z (size_for h rec) i rec)) e
      ∙ given_ready s base (size_for h rec) i rec in
      one_where (wakes just rec) now (was rec)
      ∙ ap (λ (t : Bool). cond (wakes just rec) (cond t 1 0) 0 + was rec) f
      ∙ each rec

  pub tally_count : (m i : ℕ) (rows : Rows G) → i + m ≡ length h.records → Fine s h just base i rows
      → count_from s h just i rows + count_rest was h i ≡ count_rest (ready_one base) h i
  tally_count zero i rows e p =
      let l : length h.records ≤ i = omega arith in
      omega (arith, tally_all s h just rows i l, count_all was h i l, count_all (ready_one base) h i l)
  tally_count (suc m) i rows e p =
      let l : i < length h.records = omega arith in
      let a = tally_more s h just rows i l in
      let b = count_more was h i l in
      let d = count_more (ready_one base) h i l in
      let q = each_at i (record_at h i) rows p.settled in
      let f = visit_fine s law h wf just base wide i rows p in
      let z = tally_count m (i + 1) (after_visit s h just i rows) (omega arith) f in
      omega arith
