-- The heap with what is not kept emptied: its cells and records, and that it is well-formed.
use Rattle.std.proofs.Common.{◌≡◌, ℕ, zero, suc, ◌+◌, Bool, true, false, cond, ◌&&◌, List, [], ◌∷◌, length, get_or, is_some, Some, None, Option, sym, refl, ap, ◌∙◌, arith}
use lib.ListN.{length-map, get_or-map}
use Rattle.std.proofs.lemmas.Bool.{and_parts, and_from}
use Rattle.model.specs.declared.record.Record.{Record}
use Rattle.model.specs.declared.record.Record.TheVariants.{Root, Link, Ephemeron}
use Rattle.model.specs.Meaning.{Meaning, WellFormed, cell_at, record_at, size_fits, filled_in, names_filled}
use Rattle.model.specs.Sweeping.{cells_kept, names_kept, record_kept, emptied}
use Rattle.model.proofs.Filled.{none_some, some_same}

module _ (keep : ℕ → Bool) where
  length-cells_kept : (c : ℕ) (xs : List (Option ℕ)) → length (cells_kept keep c xs) ≡ length xs
  unfolding cells_kept
  length-cells_kept c [] = refl
  length-cells_kept c (x ∷ xs) = ap suc (length-cells_kept (c + 1) xs)

  cond_none : {A : Type 0} (b : Bool) → ◌≡◌ {A = Option A} (cond b None None) None
  cond_none true = refl
  cond_none false = refl

  get_or-cells_kept : (c : ℕ) (xs : List (Option ℕ)) (j : ℕ)
      → get_or (cells_kept keep c xs) j None ≡ cond (keep (c + j)) (get_or xs j None) None
  unfolding cells_kept
  get_or-cells_kept c [] j = sym (cond_none (keep (c + j)))
  get_or-cells_kept c (x ∷ xs) zero = ap (λ (k : ℕ). cond (keep k) x None) (omega arith)
  get_or-cells_kept c (x ∷ xs) (suc j) =
      get_or-cells_kept (c + 1) xs j ∙ ap (λ (k : ℕ). cond (keep k) (get_or xs j None) None) (omega arith)

  cond_some : {A : Type 0} (b : Bool) (o : Option A) (x : A) → cond b o None ≡ Some x
      → (b ≡ true) × (o ≡ Some x)
  cond_some true o x e = (refl, e)
  cond_some false o x e = absurd (none_some refl e)

  module _ (h : Meaning) where
    -- a cell stays where it is kept, and is empty where it is not
    pub cell_emptied : (c : ℕ) → cell_at (emptied keep h) c ≡ cond (keep c) (cell_at h c) None
    cell_emptied c =
        get_or-cells_kept 0 h.cells c ∙ ap (λ (k : ℕ). cond (keep k) (cell_at h c) None) (omega arith)

    pub cell_from : (c n : ℕ) → cell_at (emptied keep h) c ≡ Some n
        → (keep c ≡ true) × (cell_at h c ≡ Some n)
    cell_from c n e = cond_some (keep c) (cell_at h c) n (sym (cell_emptied c) ∙ e)

    pub cell_kept : (c : ℕ) → keep c ≡ true → cell_at (emptied keep h) c ≡ cell_at h c
    cell_kept c k = cell_emptied c ∙ rw k

    pub cell_gone : (c : ℕ) → keep c ≡ false → cell_at (emptied keep h) c ≡ None
    cell_gone c k = cell_emptied c ∙ rw k

    -- a record stays where every cell that it names is kept
    pub record_emptied : (r : ℕ) → record_at (emptied keep h) r ≡ record_kept keep (record_at h r)
    record_emptied r = get_or-map (record_kept keep) h.records r None

    record_kept_some : (x : Option Record) (rec : Record) → record_kept keep x ≡ Some rec
        → (names_kept keep rec ≡ true) × (x ≡ Some rec)
    record_kept_some None rec e = absurd (none_some refl e)
    record_kept_some (Some y) rec e =
        let q = cond_some (names_kept keep y) (Some y) rec e in
        let same : y ≡ rec = some_same refl q.1 in
        (rw (← same) q.0, q.1)

    pub record_from : (r : ℕ) (rec : Record) → record_at (emptied keep h) r ≡ Some rec
        → (names_kept keep rec ≡ true) × (record_at h r ≡ Some rec)
    record_from r rec e = record_kept_some (record_at h r) rec (sym (record_emptied r) ∙ e)

    pub record_to : (r : ℕ) (rec : Record) → names_kept keep rec ≡ true → record_at h r ≡ Some rec
        → record_at (emptied keep h) r ≡ Some rec
    record_to r rec k e = record_emptied r ∙ rw (e, k)

    -- so the heap stays well-formed
    size_to : (c : ℕ) (b : Bool) → size_fits (cell_at h c) ≡ true
        → size_fits (cond b (cell_at h c) None) ≡ true
    size_to c true e = e
    size_to c false e = refl

    filled_to : (c : ℕ) → keep c ≡ true → filled_in h.cells c ≡ true
        → filled_in (emptied keep h).cells c ≡ true
    filled_to c k f = ap (λ (o : Option ℕ). is_some o) (cell_kept c k) ∙ f

    named_to : (rec : Record) → names_kept keep rec ≡ true → names_filled h.cells (Some rec) ≡ true
        → names_filled (emptied keep h).cells (Some rec) ≡ true
    named_to (Root t) k n = filled_to t k n
    named_to (Link a t w) k n =
        let q = and_parts (keep a) (keep t) k in
        let f = and_parts (filled_in h.cells a) (filled_in h.cells t) n in
        and_from _ _ (filled_to a q.0 f.0) (filled_to t q.1 f.1)
    named_to (Ephemeron a b v) k n =
        let q = and_parts (keep a) (keep b && keep v) k in
        let p = and_parts (keep b) (keep v) q.1 in
        let f = and_parts (filled_in h.cells a) (filled_in h.cells b && filled_in h.cells v) n in
        let g = and_parts (filled_in h.cells b) (filled_in h.cells v) f.1 in
        and_from _ _ (filled_to a q.0 f.0)
        (and_from _ _ (filled_to b p.0 g.0) (filled_to v p.1 g.1))

    kept_named : (x : Option Record) → names_filled h.cells x ≡ true
        → names_filled (emptied keep h).cells (record_kept keep x) ≡ true
    kept_named None f = refl
    kept_named (Some rec) f = go (names_kept keep rec) refl
      where
        go : (b : Bool) → names_kept keep rec ≡ b
            → names_filled (emptied keep h).cells (cond b (Some rec) None) ≡ true
        go true e = named_to rec e f
        go false e = refl

    pub emptied_formed : WellFormed h → WellFormed (emptied keep h)
    emptied_formed wf = record {
      cell_count = length-cells_kept 0 h.cells ∙ wf.cell_count;
      record_count = length-map h.records (record_kept keep) ∙ wf.record_count;
      sizes_fit = λ c. ap size_fits (cell_emptied c) ∙ size_to c (keep c) (wf.sizes_fit c);
      names_filled_cells = λ r.
          ap (names_filled (emptied keep h).cells) (record_emptied r)
          ∙ kept_named (record_at h r) (wf.names_filled_cells r);
    }
