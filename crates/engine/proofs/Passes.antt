-- A pass over the records: what waits at each cell is the least of the offers weighed so far.
use Rattle.std.proofs.Common.{◌≡◌, ℕ, zero, suc, ◌+◌, ◌<◌, Bool, true, false, cond, ltb, ◌⊎◌, length, get_or, set, Some, None, Option, sym, refl, ap, ◌∙◌, subst, inl, inr, arith}
use Rattle.std.proofs.lemmas.List.{get_or-set_same, get_or-set_other, set-get_or, map-set, length-map}
use Rattle.std.proofs.lemmas.Bool.{cases_eq}
use Rattle.model.specs.declared.record.Record.{Record}
use Rattle.model.specs.declared.row.Row.{Row}
use Rattle.model.specs.declared.row.Offer.{Offer}
use Rattle.model.specs.Schemes.{Scheme, Lawful}
use Rattle.model.specs.Meaning.{Meaning, WellFormed, cell_at, record_at}
use Rattle.model.specs.Settling.{Rows, target, given, earlier, better_of, size_or_none, offer}
use Rattle.model.proofs.Filled.{none_some, some_same}
use Rattle.model.proofs.Formed.{cell_below}
use Rattle.model.proofs.Knuth.{offer_parts, target_filled}
use Rattle.offers.specs.Offers.{settled_row, held_offer, waiting, row_waiting}
use Rattle.engine.specs.Working.{settled_rows, proposed, propose, gives, weighed_by, wakes, visit}
use Rattle.engine.proofs.Loops.{settled_at, rows_from, after_visit, pass_more, pass_all}
use Rattle.engine.proofs.Least.{Least, least_iff, least_join, least_self}

-- the size of the cell that a record reaches
abbrev pub size_for : Meaning → Record → ℕ
size_for h rec = size_or_none (cell_at h (target rec))

-- the offer a comes from a record that this pass leaves out, or from one with a number below j
abbrev pub Passed : {G : Type 0} → Scheme G → Meaning → Option ℕ → Rows G → ℕ → Offer G → Type 0
Passed s h just base j a =
    (r : ℕ) × (rec : Record) × (record_at h r ≡ Some rec) × (offer s h base r rec ≡ Some a)
    × ((wakes just rec ≡ false) ⊎ (r < j))

-- .. and it is made to cell n
abbrev pub PassedTo : {G : Type 0} → Scheme G → Meaning → Option ℕ → Rows G → ℕ → ℕ → Offer G → Type 0
PassedTo s h just base j n a = Passed s h just base j a × (a.cell ≡ n)

-- the settled rows are `base`, and at each cell the least of the offers so far waits
pub record Fine {G : Type 0} (s : Scheme G) (h : Meaning) (just : Option ℕ) (base : Rows G)
    (j : ℕ) (rows : Rows G) : Type 0 where
  pub settled : settled_rows rows ≡ base
  pub least : (n : ℕ) → Least s (PassedTo s h just base j n) (waiting n (get_or rows n None))

-- an offer settles nothing, the better offer waits after it, and a settled row stands
module _ {G : Type 0} (s : Scheme G) (o : Offer G) where
  abbrev beaten : Row G → Bool
  beaten row = earlier (s.rank o.grade row.grade) o (held_offer o.cell row)

  abbrev after : Bool → Bool → Row G → Option (Row G)
  after t u row = cond t (Some row) (cond u (Some (row_waiting o)) (Some row))

  proposed_row : (z : Option (Row G)) → settled_row (proposed s o z) ≡ settled_row z
  proposed_row None = refl
  proposed_row (Some row) = go (ltb row.turn 1024) refl (beaten row)
    where
      go : (t : Bool) → ltb row.turn 1024 ≡ t → (u : Bool)
          → settled_row (after t u row) ≡ cond t (Some row) None
      go true e u = rw e
      go false e true = refl
      go false e false = rw e

  proposed_waiting : (z : Option (Row G)) → settled_row z ≡ None
      → waiting o.cell (proposed s o z) ≡ better_of s (waiting o.cell z) (Some o)
  proposed_waiting None f = refl
  proposed_waiting (Some row) f = go (ltb row.turn 1024) refl (beaten row) refl f
    where
      go : (t : Bool) → ltb row.turn 1024 ≡ t → (u : Bool) → beaten row ≡ u
          → cond t (Some row) None ≡ None
          → waiting o.cell (after t u row)
          ≡ better_of s (cond t None (Some (held_offer o.cell row))) (Some o)
      go true e u v f = absurd (none_some f refl)
      go false e true v f = rw v
      go false e false v f = rw (e, v)

  proposed_stands : (z : Option (Row G)) (row : Row G) → settled_row z ≡ Some row → proposed s o z ≡ z
  proposed_stands None row f = absurd (none_some refl f)
  proposed_stands (Some x) row f = go (ltb x.turn 1024) f (beaten x)
    where
      go : (t : Bool) → cond t (Some x) None ≡ Some row → (u : Bool) → after t u x ≡ Some x
      go true f u = refl
      go false f u = absurd (none_some refl f)

  propose_settled : (rows : Rows G) → settled_rows (propose s o rows) ≡ settled_rows rows
  propose_settled rows =
      let z = get_or rows o.cell None in
      map-set settled_row rows o.cell (proposed s o z)
      ∙ ap (set (settled_rows rows) o.cell) (proposed_row z ∙ sym (settled_at rows o.cell))
      ∙ set-get_or (settled_rows rows) o.cell None

module _ {G : Type 0} (s : Scheme G) (law : Lawful s) (h : Meaning) (wf : WellFormed h)
    (just : Option ℕ) (base : Rows G) (wide : length base ≡ 1024) where
  abbrev P : ℕ → ℕ → Offer G → Type 0
  P j n a = PassedTo s h just base j n a

  abbrev FineAt : ℕ → Rows G → Type 0
  FineAt j rows = Fine s h just base j rows

  -- the record of number j makes the offer a
  abbrev Own : ℕ → Record → Offer G → Type 0
  Own j rec a = (record_at h j ≡ Some rec) × (offer s h base j rec ≡ Some a)

  -- what is passed at j + 1 was passed at j, or is record j's own offer
  one_more : (j n : ℕ) (a : Offer G) → P (j + 1) n a → P j n a ⊎ ((rec : Record) × Own j rec a)
  one_more j n a ((r, rec, e, f, inl w), q) = inl ((r, rec, e, f, inl w), q)
  one_more j n a ((r, rec, e, f, inr w), q) = elim (cases_eq r j) [
    | inl p ↦ inr (rec, ((rw p at e), (rw p at f)))
    | inr p ↦ inl ((r, rec, e, f, inr (omega arith)), q)
  ]

  more : (j n : ℕ) (a : Offer G) → P j n a → P (j + 1) n a
  more j n a ((r, rec, e, f, inl w), q) = ((r, rec, e, f, inl w), q)
  more j n a ((r, rec, e, f, inr w), q) = ((r, rec, e, f, inr (omega arith)), q)

  -- a record that makes no offer in this pass leaves the rows as they are
  still : (j : ℕ) (rows : Rows G) → ((a : Offer G) (rec : Record) → Own j rec a → wakes just rec ≡ false)
      → FineAt j rows → FineAt (j + 1) rows
  still j rows quiet p = record {
    settled = p.settled;
    least = λ n. least_iff s law (P j n) (P (j + 1) n) _ (more j n) (less n) (p.least n);
  }
    where
      less : (n : ℕ) (a : Offer G) → P (j + 1) n a → P j n a
      less n a u = elim (one_more j n a u) [
        | inl v ↦ v
        | inr v ↦ ((j, v.0, v.1.0, v.1.1, inl (quiet a v.0 v.1)), u.1)
      ]

  module _ (j : ℕ) (rec : Record) (is-rec : record_at h j ≡ Some rec)
      (rows : Rows G) (p : FineAt j rows) where
    abbrev at_target : Option (Row G)
    at_target = get_or base (target rec) None

    length-rows : length rows ≡ 1024
    length-rows = sym (length-map rows settled_row) ∙ ap length p.settled ∙ wide

    own_offer : (a : Offer G) (r : Record) → Own j r a → offer s h base j rec ≡ Some a
    own_offer a r o = ap (offer s h base j) (some_same is-rec o.0) ∙ o.1

    -- a record that gives nothing, and one whose cell is settled
    silent : given s base (size_for h rec) j rec ≡ None → FineAt (j + 1) rows
    silent e =
        still j rows (λ a r o. absurd (none_some e (offer_parts s h base j rec a (own_offer a r o)).3)) p

    taken_target : (row : Row G) → at_target ≡ Some row → FineAt (j + 1) rows
    taken_target row e =
        still j rows (λ a r o. absurd (none_some (offer_parts s h base j rec a (own_offer a r o)).0 e)) p

    module _ (g : G) (gave : given s base (size_for h rec) j rec ≡ Some g) where
      abbrev new : Offer G
      new = record { grade = g; cell = target rec; number = j }

      abbrev here : Option (Row G)
      here = get_or rows (target rec) None

      base_here : at_target ≡ settled_row here
      base_here =
          ap (λ (z : Rows G). get_or z (target rec) None) (sym p.settled) ∙ settled_at rows (target rec)

      below : target rec < length rows
      below =
          let f = target_filled s law h wf j rec is-rec in
          rw length-rows (cell_below h wf (target rec) f.0 f.1)

      -- the cell is not settled, so the new offer is compared with what waits there
      module _ (free : at_target ≡ None) where
        makes : offer s h base j rec ≡ Some new
        makes = rw (free, gave)

        own : (a : Offer G) (r : Record) → Own j r a → Some new ≡ Some a
        own a r o = sym makes ∙ own_offer a r o

        own_cell : (a : Offer G) (r : Record) → Own j r a → a.cell ≡ target rec
        own_cell a r o = sym (ap (λ (x : Offer G). x.cell) (some_same refl (own a r o)))

        least_here : Least s (P (j + 1) (target rec)) (better_of s (waiting (target rec) here) (Some new))
        least_here =
            least_iff s law (λ a. P j (target rec) a ⊎ (Some new ≡ Some a)) (P (j + 1) (target rec)) _ to from
            (least_join s law (P j (target rec)) (λ a. Some new ≡ Some a) _ (Some new)
            (p.least (target rec)) (least_self s law (Some new)))
          where
            to : (a : Offer G) → P j (target rec) a ⊎ (Some new ≡ Some a) → P (j + 1) (target rec) a
            to a (inl u) = more j (target rec) a u
            to a (inr u) =
                let cell : a.cell ≡ target rec = sym (ap (λ (x : Offer G). x.cell) (some_same refl u)) in
                ((j, rec, is-rec, makes ∙ u, inr (omega arith)), cell)

            from : (a : Offer G) → P (j + 1) (target rec) a → P j (target rec) a ⊎ (Some new ≡ Some a)
            from a u = elim (one_more j (target rec) a u) [
              | inl v ↦ inl v
              | inr v ↦ inr (own a v.0 v.1)
            ]

        least_apart : (n : ℕ) → (n ≡ target rec → ⊥) → Least s (P (j + 1) n) (waiting n (get_or rows n None))
        least_apart n x = least_iff s law (P j n) (P (j + 1) n) _ (more j n) from (p.least n)
          where
            from : (a : Offer G) → P (j + 1) n a → P j n a
            from a u = elim (one_more j n a u) [
              | inl v ↦ v
              | inr v ↦ absurd (x (sym u.1 ∙ own_cell a v.0 v.1))
            ]

        abbrev waits_after : ℕ → Option (Offer G)
        waits_after n = waiting n (get_or (propose s new rows) n None)

        after_here : waits_after (target rec) ≡ better_of s (waiting (target rec) here) (Some new)
        after_here =
            ap (waiting (target rec)) (get_or-set_same rows (target rec) (proposed s new here) None below)
            ∙ proposed_waiting s new here (sym base_here ∙ free)

        least_after : (n : ℕ) → Least s (P (j + 1) n) (waits_after n)
        least_after n = elim (cases_eq n (target rec)) [
          | inl x ↦ subst (λ (m : ℕ). Least s (P (j + 1) m) (waits_after m)) (sym x)
              (subst (Least s (P (j + 1) (target rec))) (sym after_here) least_here)
          | inr x ↦ subst (λ (z : Option (Row G)). Least s (P (j + 1) n) (waiting n z))
              (sym (get_or-set_other rows (target rec) n (proposed s new here) None x)) (least_apart n x)
        ]

        fresh : FineAt (j + 1) (propose s new rows)
        fresh = record { settled = propose_settled s new rows ∙ p.settled; least = least_after }

      weighed_fine : FineAt (j + 1) (propose s new rows)
      weighed_fine = go at_target refl
        where
          go : (x : Option (Row G)) → at_target ≡ x → FineAt (j + 1) (propose s new rows)
          go None e = fresh e
          go (Some row) e =
              let stands = proposed_stands s new here row (sym base_here ∙ e) in
              let same : propose s new rows ≡ rows =
              ap (set rows (target rec)) stands ∙ set-get_or rows (target rec) None in
              subst (FineAt (j + 1)) (sym same) (taken_target row e)

    record_fine : FineAt (j + 1) (visit s h just j (Some rec) rows)
    record_fine = go (wakes just rec) refl
      where
        by_given : (y : Option G) → given s base (size_for h rec) j rec ≡ y
            → FineAt (j + 1) (weighed_by s rows j rec y)
        by_given None e = silent e
        by_given (Some g) e = weighed_fine g e

        go : (t : Bool) → wakes just rec ≡ t
            → FineAt (j + 1) (cond t (weighed_by s rows j rec (gives s h rows j rec)) rows)
        go true w =
            by_given (gives s h rows j rec)
            (ap (λ (z : Rows G). given s z (size_for h rec) j rec) (sym p.settled))
        go false w = still j rows (λ a r o. ap (wakes just) (some_same o.0 is-rec) ∙ w) p

  -- one record, and then all of them
  pub visit_fine : (j : ℕ) (rows : Rows G) → FineAt j rows → FineAt (j + 1) (after_visit s h just j rows)
  visit_fine j rows p = go (record_at h j) refl
    where
      go : (x : Option Record) → record_at h j ≡ x → FineAt (j + 1) (visit s h just j x rows)
      go None e = still j rows (λ a rec o. absurd (none_some e o.0)) p
      go (Some rec) e = record_fine j rec e rows p

  pub pass_fine : (m i : ℕ) (rows : Rows G) → i + m ≡ length h.records → FineAt i rows
      → FineAt (length h.records) (rows_from s h just i rows)
  pass_fine zero i rows e p =
      let q : i ≡ length h.records = omega arith in
      subst (λ (k : ℕ). FineAt k (rows_from s h just i rows)) q
      (subst (FineAt i) (sym (pass_all s h just rows i (omega arith))) p)
  pass_fine (suc m) i rows e p =
      subst (FineAt (length h.records)) (sym (pass_more s h just rows i (omega arith)))
      (pass_fine m (i + 1) (after_visit s h just i rows) (omega arith) (visit_fine i rows p))
