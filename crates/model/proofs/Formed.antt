-- What a well-formed meaning says of its filled cells and records.
use Rattle.std.proofs.Common.{◌≡◌, ℕ, ◌<◌, ◌≤◌, true, ◌&&◌, leb, List, length, get_or, is_some, Some, None, Option, refl, subst, inl, inr, arith, leb-true}
use lib.ListN.{get_or-eq_default}
use Rattle.std.proofs.lemmas.Bool.{cases_lt, and_parts, false≢true}
use Rattle.model.specs.declared.record.Record.{Record}
use Rattle.model.specs.declared.record.Record.TheVariants.{Root, Link, Ephemeron}
use Rattle.model.specs.Meaning.{Meaning, WellFormed, cell_at, record_at}
use Rattle.model.specs.Meaning.{size_fits, filled_in, names_filled}
use Rattle.model.proofs.Filled.{none_some}

-- cell c holds something
abbrev pub Filled : Meaning → ℕ → Type 0
Filled h c = (n : ℕ) × (cell_at h c ≡ Some n)

-- every cell that a record names is filled
abbrev pub Named : Meaning → Record → Type 0
Named h (Root t) = Filled h t
Named h (Link a t k) = Filled h a × Filled h t
Named h (Ephemeron a b v) = Filled h a × Filled h b × Filled h v

some_of : {A : Type 0} (o : Option A) → is_some o ≡ true → (x : A) × (o ≡ Some x)
some_of None e = absurd (false≢true e)
some_of (Some x) e = (x, refl)

-- a filled place lies within its list
below : {A : Type 0} (xs : List (Option A)) (i k : ℕ) (x : A) → length xs ≡ k
    → get_or xs i None ≡ Some x → i < k
below xs i k x w e = elim (cases_lt i k) [
  | inl p ↦ p
  | inr p ↦ absurd (none_some (get_or-eq_default xs None {n = i} (omega arith)) e)
]

module _ (h : Meaning) (wf : WellFormed h) where
  -- the number of a filled cell or record, and the size of a cell, are within their bounds
  pub cell_below : (c n : ℕ) → cell_at h c ≡ Some n → c < 1024
  cell_below c n e = below h.cells c 1024 n wf.cell_count e

  pub record_below : (r : ℕ) (rec : Record) → record_at h r ≡ Some rec → r < 4096
  record_below r rec e = below h.records r 4096 rec wf.record_count e

  pub size_within : (c n : ℕ) → cell_at h c ≡ Some n → (1 ≤ n) × (n ≤ 1048576)
  size_within c n e =
      let fits = subst (λ (o : Option ℕ). size_fits o ≡ true) e (wf.sizes_fit c) in
      let p = and_parts (leb 1 n) (leb n 1048576) fits in
      (leb-true 1 n p.0, leb-true n 1048576 p.1)

  -- a filled record names filled cells
  names_of : (rec : Record) → names_filled h.cells (Some rec) ≡ true → Named h rec
  names_of (Root t) e = some_of (cell_at h t) e
  names_of (Link a t k) e =
      let p = and_parts (filled_in h.cells a) (filled_in h.cells t) e in
      (some_of (cell_at h a) p.0, some_of (cell_at h t) p.1)
  names_of (Ephemeron a b v) e =
      let p = and_parts (filled_in h.cells a) (filled_in h.cells b && filled_in h.cells v) e in
      let q = and_parts (filled_in h.cells b) (filled_in h.cells v) p.1 in
      (some_of (cell_at h a) p.0, some_of (cell_at h b) q.0, some_of (cell_at h v) q.1)

  pub named_filled : (r : ℕ) (rec : Record) → record_at h r ≡ Some rec → Named h rec
  named_filled r rec e =
      let formed = wf.names_filled_cells r in
      names_of rec (subst (λ (o : Option Record). names_filled h.cells o ≡ true) e formed)
