-- The best offer: it is one of the offers, and none has a better grade.
use Rattle.std.proofs.Common.{◌≡◌, ℕ, Bool, true, false, cond, ◌⊎◌, List, [], ◌∷◌, Some, None, Option, refl, inl, inr}
use Rattle.model.specs.declared.record.Record.{Record}
use Rattle.model.specs.declared.row.Offer.{Offer}
use Rattle.model.specs.Schemes.{Scheme, Lawful, NoWorse}
use Rattle.model.specs.Meaning.{Meaning}
use Rattle.model.specs.Settling.{Rows, earlier, better_of, offer, best}
use Rattle.model.proofs.Filled.{In, here, there, none_some}
use Rattle.model.proofs.Order.{best_before}

-- an offer stands in x, and its grade is no worse than g
abbrev pub Matches : {G : Type 0} → Scheme G → Option (Offer G) → G → Type 0
Matches {G} s x g = (o : Offer G) × (x ≡ Some o) × NoWorse s o.grade g

module _ {G : Type 0} (s : Scheme G) (law : Lawful s) where
  -- the better of two offers is one of the two
  pub better_sound : (x y : Option (Offer G)) (o : Offer G) → better_of s x y ≡ Some o
      → (x ≡ Some o) ⊎ (y ≡ Some o)
  better_sound None y o e = inr e
  better_sound (Some a) None o e = inl e
  better_sound (Some a) (Some b) o e = go (earlier (s.rank b.grade a.grade) b a) e
    where
      go : (t : Bool) → cond t (Some b) (Some a) ≡ Some o → (Some a ≡ Some o) ⊎ (Some b ≡ Some o)
      go true e = inr e
      go false e = inl e

  module _ (h : Meaning) (rows : Rows G) where
    -- the best offer is made by one of the records
    pub best_sound : (ps : List (ℕ × Record)) (o : Offer G) → best s h rows ps ≡ Some o
        → (p : ℕ × Record) × In p ps × (offer s h rows p.0 p.1 ≡ Some o)
    best_sound [] o e = absurd (none_some refl e)
    best_sound (p ∷ ps) o e = elim (better_sound (offer s h rows p.0 p.1) (best s h rows ps) o e) [
      | inl f ↦ (p, here, f)
      | inr f ↦ (let q = best_sound ps o f in (q.0, there q.1, q.2))
    ]

    -- its grade is no worse than that of any offer
    pub best_least : (ps : List (ℕ × Record)) (p : ℕ × Record) (a : Offer G) → In p ps
        → offer s h rows p.0 p.1 ≡ Some a → Matches s (best s h rows ps) a.grade
    best_least ps p a m e =
        let q = best_before s law h rows ps p a m e in
        (q.0, q.1, q.2.no_worse)
