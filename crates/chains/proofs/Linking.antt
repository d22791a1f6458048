-- Building the chains, one place after another from the last to the first.
use Rattle.std.proofs.Common.{◌≡◌, ℕ, ◌+◌, ◌*◌, ◌/◌, ◌%◌, ◌<◌, ◌≤◌, Bool, true, false, cond, eqb, List, length, get_or, set, replicate, Some, None, Option, sym, refl, ap, ◌∙◌, subst, subst₂, inl, inr, arith}
use Rattle.std.proofs.lemmas.List.{get_or-set_same, get_or-set_other, get_or-replicate, length-set, length-replicate}
use Rattle.std.proofs.lemmas.Bool.{cases_eq, eq-eqb, ne_eqb}
use Rattle.model.specs.declared.record.Record.{Record}
use Rattle.model.specs.declared.record.Record.TheVariants.{Root, Link, Ephemeron}
use Rattle.model.specs.Meaning.{Meaning, WellFormed, record_at}
use Rattle.model.proofs.Filled.{none_some, some_same}
use Rattle.model.proofs.Formed.{cell_below, named_filled}
use Rattle.chains.specs.Places.{first_source, second_source, source_at, belongs, seek, lowest, firsts_with, nexts_with, Linked}
use Rattle.chains.proofs.Seeking.{lowest_here, lowest_on}

module _ (h : Meaning) where
  -- before any place is put
  pub linked_none : (firsts nexts : List ℕ) → firsts ≡ replicate 1024 8192 → nexts ≡ replicate 8192 8192
      → Linked h 8192 firsts nexts
  unfolding seek
  linked_none firsts nexts e f = record {
    wide = ap length e ∙ length-replicate {A = ℕ} 1024 8192;
    long = ap length f ∙ length-replicate {A = ℕ} 8192 8192;
    each_first = λ c l. ap (λ (xs : List ℕ). get_or xs c 8192) e ∙ get_or-replicate 1024 c 8192 8192 l;
    each_next = λ c q l m x. absurd (omega arith);
  }

  -- one place more
  module _ (p : ℕ) (within : p < 8192) (firsts nexts : List ℕ) (old : Linked h (p + 1) firsts nexts) where
    without : source_at h p ≡ None → Linked h p firsts nexts
    without e = record {
      wide = old.wide;
      long = old.long;
      each_first = λ c l. old.each_first c l
          ∙ sym (lowest_on h c p within (ap (λ (x : Option ℕ). belongs x c) e));
      each_next = λ c q l m x. elim (cases_eq q p) [
        | inl y ↦ absurd (none_some e (subst (λ (k : ℕ). source_at h k ≡ Some c) y x))
        | inr y ↦ old.each_next c q (omega arith) m x
      ];
    }

    module _ (a : ℕ) (below : a < 1024) (here : source_at h p ≡ Some a) where
      first_with : (c : ℕ) → c < 1024 → get_or (set firsts a p) c 8192 ≡ lowest h c p
      first_with c l = elim (cases_eq c a) [
        | inl x ↦ subst (λ (k : ℕ). get_or (set firsts a p) k 8192 ≡ lowest h k p) (sym x)
            (get_or-set_same firsts a p 8192 (omega (arith, old.wide))
            ∙ sym (lowest_here h a p within
            (ap (λ (x : Option ℕ). belongs x a) here ∙ eq-eqb a a refl)))
        | inr x ↦ get_or-set_other firsts a c p 8192 x
            ∙ old.each_first c l
            ∙ sym (lowest_on h c p within
            (ap (λ (x : Option ℕ). belongs x c) here ∙ ne_eqb a c (λ y. x (sym y))))
      ]

      abbrev after : List ℕ
      after = set nexts p (get_or firsts a 8192)

      next_with : (c q : ℕ) → p ≤ q → q < 8192 → source_at h q ≡ Some c
          → get_or after q 8192 ≡ lowest h c (q + 1)
      next_with c q l m x = elim (cases_eq q p) [
        | inl y ↦
            let own : a ≡ c = some_same here (subst (λ (k : ℕ). source_at h k ≡ Some c) y x) in
            subst (λ (k : ℕ). get_or after k 8192 ≡ lowest h c (k + 1)) (sym y)
            (get_or-set_same nexts p (get_or firsts a 8192) 8192 (omega (arith, old.long))
            ∙ old.each_first a below
            ∙ ap (λ (k : ℕ). lowest h k (p + 1)) own)
        | inr y ↦ get_or-set_other nexts p q (get_or firsts a 8192) 8192 y ∙ old.each_next c q (omega arith) m x
      ]

      with_place : Linked h p (set firsts a p) after
      with_place = record {
        wide = length-set firsts a p ∙ old.wide;
        long = length-set nexts p (get_or firsts a 8192) ∙ old.long;
        each_first = first_with;
        each_next = next_with;
      }

    pub linked_more : (x : Option ℕ) → x ≡ source_at h p → ((c : ℕ) → x ≡ Some c → c < 1024)
        → Linked h p (firsts_with p x firsts) (nexts_with p x firsts nexts)
    linked_more None e l = without (sym e)
    linked_more (Some a) e l = with_place a (l a refl) (sym e)

  -- the two places of a record
  pub at_first : (r : ℕ) → first_source (record_at h r) ≡ source_at h (2 * r)
  at_first r =
      let e : (2 * r) / 2 ≡ r = omega arith in
      let f : (2 * r) % 2 ≡ 0 = omega arith in
      rw (e, f)

  pub at_second : (r : ℕ) → second_source (record_at h r) ≡ source_at h (2 * r + 1)
  at_second r =
      let e : (2 * r + 1) / 2 ≡ r = omega arith in
      let f : (2 * r + 1) % 2 ≡ 1 = omega arith in
      rw (e, f)

  -- a place more, told by equations
  module _ (firsts nexts firsts' nexts' : List ℕ) (x : Option ℕ) where
    pub put_place : (p q : ℕ) → p < 8192 → q ≡ p + 1 → x ≡ source_at h p
        → ((c : ℕ) → x ≡ Some c → c < 1024)
        → firsts' ≡ firsts_with p x firsts → nexts' ≡ nexts_with p x firsts nexts
        → Linked h q firsts nexts → Linked h p firsts' nexts'
    put_place p q l n e b f k old =
        let old' : Linked h (p + 1) firsts nexts = rw n at old in
        subst₂ (λ (y z : List ℕ). Linked h p y z) (sym f) (sym k)
        (linked_more p l firsts nexts old' x e b)

  -- the cells that stand there
  module _ (wf : WellFormed h) (r : ℕ) where
    pub first_below : (c : ℕ) → first_source (record_at h r) ≡ Some c → c < 1024
    first_below c e = go (record_at h r) refl e
      where
        go : (x : Option Record) → record_at h r ≡ x → first_source x ≡ Some c → c < 1024
        go None f e = absurd (none_some refl e)
        go (Some (Root t)) f e = absurd (none_some refl e)
        go (Some (Link a t k)) f e =
            let p = (named_filled h wf r (Link a t k) f).0 in
            rw (some_same e refl) (cell_below h wf a p.0 p.1)
        go (Some (Ephemeron a b v)) f e =
            let p = (named_filled h wf r (Ephemeron a b v) f).0 in
            rw (some_same e refl) (cell_below h wf a p.0 p.1)

    pub second_below : (c : ℕ) → second_source (record_at h r) ≡ Some c → c < 1024
    second_below c e = go (record_at h r) refl e
      where
        key : (a b : ℕ) (t : Bool) → cond t None (Some b) ≡ Some c → b ≡ c
        key a b true e = absurd (none_some refl e)
        key a b false e = some_same refl e

        go : (x : Option Record) → record_at h r ≡ x → second_source x ≡ Some c → c < 1024
        go None f e = absurd (none_some refl e)
        go (Some (Root t)) f e = absurd (none_some refl e)
        go (Some (Link a t k)) f e = absurd (none_some refl e)
        go (Some (Ephemeron a b v)) f e =
            let p = (named_filled h wf r (Ephemeron a b v) f).1 in
            subst (λ (n : ℕ). n < 1024) (key a b (eqb b a) e) (cell_below h wf b p.0 p.1)
