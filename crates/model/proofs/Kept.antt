-- What one write keeps of the tables: their lengths, sizes in range, and records
-- that name only filled cells.
use Rattle.std.proofs.Common.{◌≡◌, ℕ, zero, suc, true, ◌&&◌, List, [], ◌∷◌, length, get_or, set, replicate, is_some, Some, None, Option, refl, ap, ◌∙◌, length-set}
use lib.ListN.{length-replicate}
use Rattle.std.proofs.lemmas.Bool.{and_parts, and_from}
use Rattle.model.specs.declared.record.Record.{Record}
use Rattle.model.specs.declared.record.Record.TheVariants.{Root, Link, Ephemeron}
use Rattle.model.specs.Meaning.{filled_in, size_fits, names_filled, SizesFit, NamesFilled}

-- an element after a write is what was written or what was there
pub at_set : {X : Type 0} (P : X → Type 0) (xs : List X) (i : ℕ) (a d : X) (n : ℕ) →
    P a → P (get_or xs n d) → P (get_or (set xs i a) n d)
at_set P [] i a d n p h = h
at_set P (x ∷ xs) zero a d zero p h = p
at_set P (x ∷ xs) zero a d (suc n) p h = h
at_set P (x ∷ xs) (suc i) a d zero p h = h
at_set P (x ∷ xs) (suc i) a d (suc n) p h = at_set P xs i a d n p h

-- an element of a new table is the one that it is filled with
pub at_new : {X : Type 0} (P : X → Type 0) (m : ℕ) (d : X) (n : ℕ) → P d → P (get_or (replicate m d) n d)
at_new P zero d n p = p
at_new P (suc m) d zero p = p
at_new P (suc m) d (suc n) p = at_new P m d n p

-- a record that names only filled cells does so where more are filled
pub names_more : (cs ds : List (Option ℕ)) → ((n : ℕ) → filled_in cs n ≡ true → filled_in ds n ≡ true) →
    (o : Option Record) → names_filled cs o ≡ true → names_filled ds o ≡ true
names_more cs ds more None h = refl
names_more cs ds more (Some (Root t)) h = more t h
names_more cs ds more (Some (Link s t k)) h =
    let p = and_parts (filled_in cs s) (filled_in cs t) h in
    and_from (filled_in ds s) (filled_in ds t) (more s p.0) (more t p.1)
names_more cs ds more (Some (Ephemeron a b v)) h =
    let p = and_parts (filled_in cs a) (filled_in cs b && filled_in cs v) h in
    let q = and_parts (filled_in cs b) (filled_in cs v) p.1 in
    and_from (filled_in ds a) (filled_in ds b && filled_in ds v) (more a p.0)
    (and_from (filled_in ds b) (filled_in ds v) (more b q.0) (more v q.1))

-- the tables after a write, from the equation that the write ensures

pub length-kept : {X : Type 0} (xs ys : List X) (i k : ℕ) (a : X) → ys ≡ set xs i a →
    length xs ≡ k → length ys ≡ k
length-kept xs ys i k a e h = ap length e ∙ (length-set xs i a ∙ h)

pub sizes_kept : (cs ds : List (Option ℕ)) (i size : ℕ) → ds ≡ set cs i (Some size) →
    size_fits (Some size) ≡ true → SizesFit cs → SizesFit ds
sizes_kept cs ds i size e s h n = rw e (at_set (λ o. size_fits o ≡ true) cs i (Some size) None n s (h n))

-- a cell that is filled stays so
pub filled_kept : (cs : List (Option ℕ)) (i size n : ℕ) → filled_in cs n ≡ true →
    filled_in (set cs i (Some size)) n ≡ true
filled_kept cs i size n = at_set (λ o. is_some o ≡ true) cs i (Some size) None n refl

pub names_kept : (cs ds : List (Option ℕ)) (rs : List (Option Record)) (i size : ℕ) →
    ds ≡ set cs i (Some size) → NamesFilled cs rs → NamesFilled ds rs
names_kept cs ds rs i size e h n =
    rw e (names_more cs (set cs i (Some size)) (filled_kept cs i size) (get_or rs n None) (h n))

pub names_with : (cs : List (Option ℕ)) (rs qs : List (Option Record)) (i : ℕ) (o : Option Record) →
    qs ≡ set rs i o → names_filled cs o ≡ true → NamesFilled cs rs → NamesFilled cs qs
names_with cs rs qs i o e s h n = rw e (at_set (λ p. names_filled cs p ≡ true) rs i o None n s (h n))

-- the tables of a new heap

pub length-new : {X : Type 0} (xs : List X) (m : ℕ) (a : X) → xs ≡ replicate m a → length xs ≡ m
length-new xs m a e = ap length e ∙ length-replicate m a

pub sizes_new : (cs : List (Option ℕ)) (m : ℕ) → cs ≡ replicate m None → SizesFit cs
sizes_new cs m e n = rw e (at_new (λ o. size_fits o ≡ true) m None n refl)

pub names_new : (cs : List (Option ℕ)) (rs : List (Option Record)) (m : ℕ) → rs ≡ replicate m None →
    NamesFilled cs rs
names_new cs rs m e n = rw e (at_new (λ o. names_filled cs o ≡ true) m None n refl)
