-- Derivations: the ways of reaching a cell, and the best of them.
use Rattle.std.specs.Prelude.{◌≡◌, ℕ, Some}
use Rattle.model.specs.declared.record.Record.TheVariants.{Root, Link, Ephemeron}
use Rattle.model.specs.declared.record.Strength.{Strength}
use Rattle.model.specs.Schemes.{Scheme, NoWorse}
use Rattle.model.specs.Meaning.{Meaning, cell_at, record_at}

-- A root derives its target; a link derives its target from a derivation of its
-- source; an ephemeron derives its value from derivations of its table and its key.
-- r is the record's number, n the size of the cell that it reaches.
pub data Derivation (h : Meaning) : ℕ → Type 0 where
  by_root : (r t n : ℕ) → record_at h r ≡ Some (Root t) → cell_at h t ≡ Some n → Derivation h t
  by_link : (r a t n : ℕ) (k : Strength) → record_at h r ≡ Some (Link a t k) → cell_at h t ≡ Some n →
      Derivation h a → Derivation h t
  by_ephemeron : (r a b v n : ℕ) → record_at h r ≡ Some (Ephemeron a b v) → cell_at h v ≡ Some n →
      Derivation h a → Derivation h b → Derivation h v

-- the grade of a derivation under a scheme
abbrev pub grade_of : {G : Type 0} {h : Meaning} {c : ℕ} → Scheme G → Derivation h c → G
grade_of s (by_root r t n e f) = s.start r n
grade_of s (by_link r a t n k e f d) = s.along r n (grade_of s d) k
grade_of s (by_ephemeron r a b v n e f d₁ d₂) = s.join r n (grade_of s d₁) (grade_of s d₂)

-- g is the grade of a derivation of c, and no worse than that of any
pub record Best {G : Type 0} (s : Scheme G) (h : Meaning) (c : ℕ) (g : G) : Type 0 where
  pub witness : Derivation h c
  pub exact : grade_of s witness ≡ g
  pub no_worse : (d : Derivation h c) → NoWorse s g (grade_of s d)
