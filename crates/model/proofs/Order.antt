-- The order of offers, by grade, then cell, then record: the best offer comes before every offer.
use Rattle.std.proofs.Common.{◌≡◌, ℕ, ◌≤◌, Bool, true, false, cond, eqb, ltb, List, [], ◌∷◌, Some, None, Option, sym, refl, ap, ◌∙◌, subst, arith}
use Rattle.std.proofs.lemmas.Bool.{ltb-true, ltb-false, eqb-true, eqb-false, false≢true}
use Rattle.model.specs.declared.record.Record.{Record}
use Rattle.model.specs.declared.row.Offer.{Offer}
use Rattle.model.specs.declared.scheme.Rank.{Rank}
use Rattle.model.specs.declared.scheme.Rank.TheVariants.{Before, Same, After}
use Rattle.model.specs.Schemes.{Scheme, Lawful, NoWorse, exchanged}
use Rattle.model.specs.Meaning.{Meaning}
use Rattle.model.specs.Settling.{Rows, earlier, better_of, offer, best}
use Rattle.model.proofs.Filled.{In, here, there, some_same}

-- a's cell is no higher than b's, and for one cell a's record is no higher than b's
abbrev pub NumbersFirst : {G : Type 0} → Offer G → Offer G → Type 0
NumbersFirst a b = (a.cell ≤ b.cell) × (a.cell ≡ b.cell → a.number ≤ b.number)

-- a comes before b, or is b
pub record First {G : Type 0} (s : Scheme G) (a b : Offer G) : Type 0 where
  pub no_worse : NoWorse s a.grade b.grade
  pub ties : a.grade ≡ b.grade → NumbersFirst a b

-- an offer stands in x, and it comes before a
abbrev pub ComesBefore : {G : Type 0} → Scheme G → Option (Offer G) → Offer G → Type 0
ComesBefore {G} s x a = (o : Offer G) × (x ≡ Some o) × First s o a

module _ {G : Type 0} (s : Scheme G) (law : Lawful s) where
  -- grades are ordered: each is no worse than itself, and two that are no worse than each other are one
  pub no_worse_refl : (a : G) → NoWorse s a a
  no_worse_refl a = rw (law.equal_is_same a)

  pub no_worse_both : (a b : G) → NoWorse s a b → NoWorse s b a → a ≡ b
  no_worse_both a b p q = go (s.rank a b) refl
    where
      go : (k : Rank) → s.rank a b ≡ k → a ≡ b
      go Before e = absurd (false≢true (rw (law.rank_exchanges a b, e) at q))
      go Same e = law.same_is_equal a b e
      go After e = absurd (false≢true (rw e at p))

  -- so are offers
  pub first_refl : (a : Offer G) → First s a a
  first_refl a = record { no_worse = no_worse_refl a.grade; ties = λ e. omega arith }

  pub first_trans : (a b c : Offer G) → First s a b → First s b c → First s a c
  first_trans a b c p q = record {
    no_worse = law.no_worse_carries a.grade b.grade c.grade p.no_worse q.no_worse;
    ties = λ e.
        let back : NoWorse s b.grade a.grade = rw e q.no_worse in
        let f = no_worse_both a.grade b.grade p.no_worse back in
        let x = p.ties f in
        let y = q.ties (sym f ∙ e) in
        omega arith;
  }

  pub first_both : (a b : Offer G) → First s a b → First s b a → a ≡ b
  first_both a b p q =
      let f = no_worse_both a.grade b.grade p.no_worse q.no_worse in
      let x = p.ties f in
      let y = q.ties (sym f) in
      let c : a.cell ≡ b.cell = omega arith in
      let n : a.number ≡ b.number = omega arith in
      λ i. record { grade = f i; cell = c i; number = n i }

  -- an offer of a better grade comes first, and of one grade that with the lower numbers
  by_grade : (a b : Offer G) → s.rank a.grade b.grade ≡ Before → First s a b
  by_grade a b e = record { no_worse = rw e; ties = λ f. absurd (apart f) }
    where
      apart : a.grade ≡ b.grade → ⊥
      apart f =
          let same = law.equal_is_same b.grade in
          let moved = ap (λ (x : G). s.rank x b.grade) f in
          let z : ◌≡◌ {A = ℕ} 0 1 = cc in
          omega arith

  by_numbers : (a b : Offer G) → a.grade ≡ b.grade → NumbersFirst a b → First s a b
  by_numbers a b g n = record { no_worse = rw g (no_worse_refl b.grade); ties = λ _. n }

  -- of two offers `better_of` finds one that comes before both
  module _ (a b : Offer G) where
    abbrev BeforeBoth : Option (Offer G) → Type 0
    BeforeBoth x = (o : Offer G) × (x ≡ Some o) × (First s o a × First s o b)

    takes_a : First s a b → BeforeBoth (Some a)
    takes_a p = (a, refl, (first_refl a, p))

    takes_b : First s b a → BeforeBoth (Some b)
    takes_b p = (b, refl, (p, first_refl b))

    tie : b.grade ≡ a.grade → (t u : Bool) → eqb b.cell a.cell ≡ t
        → cond t (ltb b.number a.number) (ltb b.cell a.cell) ≡ u
        → BeforeBoth (cond u (Some b) (Some a))
    tie g true true e f =
        let x = eqb-true b.cell a.cell e in
        let y = ltb-true b.number a.number f in
        takes_b (by_numbers b a g (omega arith))
    tie g true false e f =
        let x = eqb-true b.cell a.cell e in
        let y = ltb-false b.number a.number f in
        takes_a (by_numbers a b (sym g) (omega arith))
    tie g false true e f =
        let y = ltb-true b.cell a.cell f in
        takes_b (by_numbers b a g (omega arith))
    tie g false false e f =
        let x = eqb-false b.cell a.cell e in
        let y = ltb-false b.cell a.cell f in
        takes_a (by_numbers a b (sym g) (omega arith, λ z. absurd (x (sym z))))

    pub first_both_of : BeforeBoth (better_of s (Some a) (Some b))
    first_both_of = go (s.rank b.grade a.grade) refl
      where
        go : (k : Rank) → s.rank b.grade a.grade ≡ k → BeforeBoth (better_of s (Some a) (Some b))
        go Before e = rw e (takes_b (by_grade b a e))
        go Same e =
            let g = law.same_is_equal b.grade a.grade e in
            rw e (tie g (eqb b.cell a.cell) (earlier Same b a) refl refl)
        go After e =
            let x = law.rank_exchanges b.grade a.grade ∙ ap exchanged e in
            rw e (takes_a (by_grade a b x))

  -- .. and it comes before either, where there may be no other
  pub better_left : (a : Offer G) (y : Option (Offer G)) → ComesBefore s (better_of s (Some a) y) a
  better_left a None = (a, refl, first_refl a)
  better_left a (Some b) = let q = first_both_of a b in (q.0, q.1, q.2.0)

  pub better_right : (x : Option (Offer G)) (b : Offer G) → ComesBefore s (better_of s x (Some b)) b
  better_right None b = (b, refl, first_refl b)
  better_right (Some a) b = let q = first_both_of a b in (q.0, q.1, q.2.1)

  -- where a record makes an offer there is a best one, and it comes before that of the record
  module _ (h : Meaning) (rows : Rows G) where
    pub best_before : (ps : List (ℕ × Record)) (p : ℕ × Record) (a : Offer G) → In p ps
        → offer s h rows p.0 p.1 ≡ Some a → ComesBefore s (best s h rows ps) a
    best_before [] p a m e = elim m [ ]
    best_before (_ ∷ ps) p a here e = rw e (better_left a (best s h rows ps))
    best_before (x ∷ ps) p a (there m) e =
        let q = best_before ps p a m e in
        let b = better_right (offer s h rows x.0 x.1) q.0 in
        (b.0, rw q.1 b.1, first_trans b.0 q.0 a b.2 q.2)

    pub best_first : (ps : List (ℕ × Record)) (p : ℕ × Record) (a o : Offer G) → In p ps
        → offer s h rows p.0 p.1 ≡ Some a → best s h rows ps ≡ Some o → First s o a
    best_first ps p a o m e f =
        let q = best_before ps p a m e in
        subst (λ (z : Offer G). First s z a) (some_same q.1 f) q.2
