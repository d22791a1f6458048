-- The law of sweeps: kept are exactly the cells with a derivation no worse than the limit, and each
-- has in the swept heap the grade that it had.
use Rattle.std.proofs.Common.{◌≡◌, ℕ, Bool, true, false, cond, ◌&&◌, get_or, Some, None, Option, sym, refl, ap, ◌∙◌, ap₂, inl, inr, ⊎_elim}
use Rattle.std.proofs.lemmas.Bool.{false≢true, and_parts, and_from}
use Rattle.model.specs.declared.record.Record.{Record}
use Rattle.model.specs.declared.record.Record.TheVariants.{Root, Link, Ephemeron}
use Rattle.model.specs.declared.row.Row.{Row}
use Rattle.model.specs.Schemes.{Scheme, Lawful, NoWorse}
use Rattle.model.specs.Meaning.{Meaning, WellFormed, cell_at, record_at}
use Rattle.model.specs.Derivations.{Derivation, by_root, by_link, by_ephemeron, grade_of}
use Rattle.model.specs.Settling.{graded}
use Rattle.model.specs.Sweeping.{kept, names_kept, record_kept, emptied}
use Rattle.model.specs.Sweeping.{Held, Names, Cleared, KeepsExactly, KeepsGrades}
use Rattle.model.proofs.Formed.{Filled, named_filled}
use Rattle.model.proofs.Knuth.{kind_of}
use Rattle.model.proofs.Graded.{settled_best, unsettled_underived}
use Rattle.laws.proofs.Emptied.{cell_from, cell_kept, cell_gone, record_emptied, record_from, record_to}
use Rattle.laws.proofs.Emptied.{emptied_formed}

filled_at : (h : Meaning) (a c : ℕ) → c ≡ a → Filled h a → Filled h c
filled_at h a c e f = (f.0, ap (cell_at h) e ∙ f.1)

-- a derivation in the smaller heap is one in the larger
pub raised : {G : Type 0} (s : Scheme G) (keep : ℕ → Bool) (h : Meaning) {c : ℕ}
    (e : Derivation (emptied keep h) c) → (d : Derivation h c) × (grade_of s d ≡ grade_of s e)
raised s keep h (by_root r t n e f) =
    (by_root r t n (record_from keep h r (Root t) e).1 (cell_from keep h t n f).1, refl)
raised {G} s keep h (by_link r a t n k e f d) =
    let u = raised s keep h d in (
      by_link r a t n k (record_from keep h r (Link a t k) e).1 (cell_from keep h t n f).1 u.0,
      ap (λ (g : G). s.along r n g k) u.1,
    )
raised {G} s keep h (by_ephemeron r a b v n e f d₁ d₂) =
    let u = raised s keep h d₁ in
    let w = raised s keep h d₂ in (
      by_ephemeron r a b v n (record_from keep h r (Ephemeron a b v) e).1 (cell_from keep h v n f).1
          u.0 w.0,
      ap₂ (λ (x y : G). s.join r n x y) u.1 w.1,
    )

module _ {G : Type 0} (s : Scheme G) (law : Lawful s) (h : Meaning) (wf : WellFormed h) (limit : G) where
  -- a cell is kept exactly where it is held
  pub kept_held : (c : ℕ) → Held s limit h c → kept s limit h c ≡ true
  kept_held c p = go (get_or (graded s h).rows c None) refl
    where
      go : (x : Option (Row G)) → get_or (graded s h).rows c None ≡ x → kept s limit h c ≡ true
      go None e = absurd (unsettled_underived s law h wf c e p.0)
      go (Some row) e =
          let best = (settled_best s law h wf c row e).no_worse p.0 in
          rw e (law.no_worse_carries row.grade (grade_of s p.0) limit best p.1)

  pub held_kept : (c : ℕ) → kept s limit h c ≡ true → Held s limit h c
  held_kept c k = go (get_or (graded s h).rows c None) refl
    where
      go : (x : Option (Row G)) → get_or (graded s h).rows c None ≡ x → Held s limit h c
      go None e = absurd (false≢true (rw e at k))
      go (Some row) e =
          let b = settled_best s law h wf c row e in
          (b.witness, rw b.exact (rw e at k))

  pub unheld_gone : (c : ℕ) → kept s limit h c ≡ false → Held s limit h c → ⊥
  unheld_gone c k p = false≢true (sym k ∙ kept_held c p)

  pub gone_unheld : (c : ℕ) → (Held s limit h c → ⊥) → kept s limit h c ≡ false
  gone_unheld c u = go (kept s limit h c) refl
    where
      go : (b : Bool) → kept s limit h c ≡ b → kept s limit h c ≡ false
      go true e = absurd (u (held_kept c e))
      go false e = e

  -- a derivation within the limit survives the sweep
  abbrev swept : Meaning
  swept = emptied (kept s limit h) h

  pub swept_formed : WellFormed swept
  swept_formed = emptied_formed (kept s limit h) h wf

  lowered : {c : ℕ} (d : Derivation h c) → NoWorse s (grade_of s d) limit
      → (e : Derivation swept c) × (grade_of s e ≡ grade_of s d)
  lowered (by_root r t n e f) w =
      let k = kept_held t (by_root r t n e f, w) in (
        by_root r t n (record_to (kept s limit h) h r (Root t) k e) (cell_kept (kept s limit h) h t k ∙ f),
        refl,
      )
  lowered (by_link r a t n k e f d) w =
      let here = kept_held t (by_link r a t n k e f d, w) in
      let below = law.along_never_better r n (grade_of s d) k (kind_of s law h wf d) in
      let w₁ = law.no_worse_carries _ _ limit below w in
      let u = lowered d w₁ in
      let names = and_from _ _ (kept_held a (d, w₁)) here in (
        by_link r a t n k (record_to (kept s limit h) h r (Link a t k) names e)
            (cell_kept (kept s limit h) h t here ∙ f) u.0,
        ap (λ (g : G). s.along r n g k) u.1,
      )
  lowered (by_ephemeron r a b v n e f d₁ d₂) w =
      let here = kept_held v (by_ephemeron r a b v n e f d₁ d₂, w) in
      let k₁ = kind_of s law h wf d₁ in
      let k₂ = kind_of s law h wf d₂ in
      let below₁ = law.join_never_better_than_table r n (grade_of s d₁) (grade_of s d₂) k₁ k₂ in
      let below₂ = law.join_never_better_than_key r n (grade_of s d₁) (grade_of s d₂) k₁ k₂ in
      let w₁ = law.no_worse_carries _ _ limit below₁ w in
      let w₂ = law.no_worse_carries _ _ limit below₂ w in
      let u = lowered d₁ w₁ in
      let z = lowered d₂ w₂ in
      let names = and_from _ _ (kept_held a (d₁, w₁)) (and_from _ _ (kept_held b (d₂, w₂)) here) in (
        by_ephemeron r a b v n (record_to (kept s limit h) h r (Ephemeron a b v) names e)
            (cell_kept (kept s limit h) h v here ∙ f) u.0 z.0,
        ap₂ (λ (x y : G). s.join r n x y) u.1 z.1,
      )

  -- each held cell keeps its grade: what no derivation betters in the heap, none betters in a part of it
  pub keeps_grades : KeepsGrades s limit h swept
  keeps_grades c g p b =
      let fits = law.no_worse_carries g (grade_of s p.0) limit (b.no_worse p.0) p.1 in
      let l = lowered b.witness (rw b.exact fits) in
      record {
        witness = l.0;
        exact = l.1 ∙ b.exact;
        no_worse = λ d. let u = raised s (kept s limit h) h d in rw u.1 at (b.no_worse u.0);
      }

  -- a record that is not kept names a dropped cell, and a record that names one is not kept
  one_gone : (rec : Record) → names_kept (kept s limit h) rec ≡ false
      → (c : ℕ) × Names rec c × (kept s limit h c ≡ false)
  one_gone (Root t) e = (t, refl, e)
  one_gone (Link a t k) e = go (kept s limit h a) refl
    where
      go : (x : Bool) → kept s limit h a ≡ x
          → (c : ℕ) × Names (Link a t k) c × (kept s limit h c ≡ false)
      go true p = (t, inr refl, rw p at e)
      go false p = (a, inl refl, p)
  one_gone (Ephemeron a b v) e = go (kept s limit h a) (kept s limit h b) refl refl
    where
      go : (x y : Bool) → kept s limit h a ≡ x → kept s limit h b ≡ y
          → (c : ℕ) × Names (Ephemeron a b v) c × (kept s limit h c ≡ false)
      go true true p q = (v, inr (inr refl), rw (p, q) at e)
      go true false p q = (b, inr (inl refl), q)
      go false y p q = (a, inl refl, p)

  all_kept : (rec : Record) (c : ℕ) → names_kept (kept s limit h) rec ≡ true → Names rec c
      → kept s limit h c ≡ true
  all_kept (Root t) c e p = ap (kept s limit h) p ∙ e
  all_kept (Link a t k) c e p =
      let q = and_parts (kept s limit h a) (kept s limit h t) e in
      ⊎_elim (λ z. ap (kept s limit h) z ∙ q.0) (λ z. ap (kept s limit h) z ∙ q.1) p
  all_kept (Ephemeron a b v) c e p =
      let q = and_parts (kept s limit h a) (kept s limit h b && kept s limit h v) e in
      let w = and_parts (kept s limit h b) (kept s limit h v) q.1 in
      ⊎_elim (λ z. ap (kept s limit h) z ∙ q.0)
      (⊎_elim (λ z. ap (kept s limit h) z ∙ w.0) (λ z. ap (kept s limit h) z ∙ w.1)) p

  named_size : (r : ℕ) (rec : Record) (c : ℕ) → record_at h r ≡ Some rec → Names rec c → Filled h c
  named_size r (Root t) c e p = filled_at h t c p (named_filled h wf r (Root t) e)
  named_size r (Link a t k) c e p =
      let f = named_filled h wf r (Link a t k) e in
      ⊎_elim (λ z. filled_at h a c z f.0) (λ z. filled_at h t c z f.1) p
  named_size r (Ephemeron a b v) c e p =
      let f = named_filled h wf r (Ephemeron a b v) e in
      ⊎_elim (λ z. filled_at h a c z f.0)
      (⊎_elim (λ z. filled_at h b c z f.1) (λ z. filled_at h v c z f.2)) p

  pub cleared_gone : (r : ℕ) → (q : Cleared s limit h r) → names_kept (kept s limit h) q.content ≡ false
  cleared_gone r q = go (names_kept (kept s limit h) q.content) refl
    where
      go : (b : Bool) → names_kept (kept s limit h) q.content ≡ b
          → names_kept (kept s limit h) q.content ≡ false
      go true e = absurd (q.dropped.unheld (held_kept q.cell (all_kept q.content q.cell e q.names)))
      go false e = e

  pub gone_cleared : (r : ℕ) (rec : Record) → record_at h r ≡ Some rec
      → names_kept (kept s limit h) rec ≡ false → Cleared s limit h r
  gone_cleared r rec e k =
      let g = one_gone rec k in
      let f = named_size r rec g.0 e g.1 in
      record {
        content = rec;
        filled = e;
        cell = g.0;
        names = g.1;
        dropped = record { size = f.0; filled = f.1; unheld = unheld_gone g.0 g.2 };
      }

  -- the law of sweeps
  pub keeps_exactly : KeepsExactly s limit h swept
  keeps_exactly = record {
    held_stay = λ c p. cell_kept (kept s limit h) h c (kept_held c p);
    others_go = λ c u. cell_gone (kept s limit h) h c (gone_unheld c u);
    named_go = λ r q. record_emptied (kept s limit h) h r ∙ rw (q.filled, cleared_gone r q);
    others_stay = λ r u. record_emptied (kept s limit h) h r ∙ stays r u (record_at h r) refl;
  }
    where
      stays : (r : ℕ) → (Cleared s limit h r → ⊥) → (x : Option Record) → record_at h r ≡ x
          → record_kept (kept s limit h) x ≡ x
      stays r u None e = refl
      stays r u (Some rec) e = go (names_kept (kept s limit h) rec) refl
        where
          go : (b : Bool) → names_kept (kept s limit h) rec ≡ b → cond b (Some rec) None ≡ Some rec
          go true k = refl
          go false k = absurd (u (gone_cleared r rec e k))
