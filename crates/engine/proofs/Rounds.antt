-- Each turn of the engine is a step of the settling rule, so at the end both have the same rows.
use Rattle.std.proofs.Common.{◌≡◌, ℕ, zero, suc, ◌+◌, ◌<◌, ◌≤◌, Bool, true, false, cond, ltb, [], ◌∷◌, length, get_or, set, replicate, Some, None, Option, sym, refl, ap, ◌∙◌, subst, ap₂, inl, inr, arith, length-set}
use lib.ListN.{length-replicate}
use Rattle.std.proofs.lemmas.List.{get_or_past, length-map}
use Rattle.std.proofs.lemmas.Bool.{cases_lt, true≢false}
use Rattle.model.specs.declared.record.Record.{Record}
use Rattle.model.specs.declared.record.Record.TheVariants.{Root, Link, Ephemeron}
use Rattle.model.specs.declared.row.Row.{Row}
use Rattle.model.specs.declared.row.Offer.{Offer}
use Rattle.model.specs.Schemes.{Scheme, Lawful}
use Rattle.model.specs.Meaning.{Meaning, WellFormed, record_at}
use Rattle.model.specs.Settling.{Rows, State, given, best, filled, settle_by, step, settle, graded, weighed}
use Rattle.model.proofs.Filled.{none_some}
use Rattle.model.proofs.Knuth.{Sound, offer_parts}
use Rattle.model.proofs.Steps.{taken, settled_sound, new_row, get_or-nones, fresh_sound, graded_done}
use Rattle.offers.specs.Offers.{settled_row, held_offer, waiting}
use Rattle.engine.specs.Working.{settled_rows, wakes, pass, tally, chosen, seal, Work, round_at, round, run, start, all_turns}
use Rattle.engine.proofs.Least.{Least, Offers, OffersTo, least_same, least_iff, least_none, least_union, least_best, least_chosen}
use Rattle.engine.proofs.Passes.{size_for, PassedTo, Fine, pass_fine}
use Rattle.engine.proofs.Counts.{ready_one, count_over, count_none, count_over_ready, tally_count}
use Rattle.engine.proofs.Sealing.{each_sealed, sealed_fine}

-- before any cell is settled only roots give a grade
module _ {G : Type 0} (s : Scheme G) (k : ℕ) where
  abbrev empty_rows : Rows G
  empty_rows = replicate k None

  given_empty : (n r : ℕ) (rec : Record) → wakes None rec ≡ false → given s empty_rows n r rec ≡ None
  given_empty n r (Root t) w = absurd (true≢false w)
  given_empty n r (Link a t x) w = rw (get_or-nones k a)
  given_empty n r (Ephemeron a b v) w = rw (get_or-nones k a)

  each_first : (rec : Record)
      → cond (wakes None rec) (ready_one empty_rows rec) 0 + 0 ≡ ready_one empty_rows rec
  each_first (Root t) = refl
  each_first (Link a t x) = rw (get_or-nones k a)
  each_first (Ephemeron a b v) = rw (get_or-nones k a)

  first_fine : (law : Lawful s) (h : Meaning) → Fine s h None empty_rows 0 empty_rows
  first_fine law h = record { settled = all_empty k; least = at }
    where
      all_empty : (i : ℕ) → settled_rows {G = G} (replicate i None) ≡ replicate i None
      all_empty zero = refl
      all_empty (suc i) = ap (λ (z : Rows G). None ∷ z) (all_empty i)

      quiet : (n : ℕ) (a : Offer G) → PassedTo s h None empty_rows 0 n a → ⊥
      quiet n a ((r, rec, e, f, inl w), q) =
          none_some (given_empty (size_for h rec) r rec w) (offer_parts s h empty_rows r rec a f).3
      quiet n a ((r, rec, e, f, inr w), q) = absurd (omega arith)

      at : (n : ℕ) → Least s (PassedTo s h None empty_rows 0 n) (waiting n (get_or empty_rows n None))
      at n = rw (get_or-nones k n) (least_none s law (PassedTo s h None empty_rows 0 n) (quiet n))

-- the engine between turns has the settled rows of the rule, and the least offer waits at each cell
pub record Match {G : Type 0} (s : Scheme G) (h : Meaning) (st : State G) (w : Work G) : Type 0 where
  pub sound : Sound s h st
  pub settled : settled_rows w.rows ≡ st.rows
  pub least : (n : ℕ) → Least s (OffersTo s h st.rows n) (waiting n (get_or w.rows n None))
  pub turns : w.turn ≡ st.turn
  pub counts : w.count ≡ count_over (ready_one st.rows) h.records

module _ {G : Type 0} (s : Scheme G) (law : Lawful s) (h : Meaning) (wf : WellFormed h) where
  abbrev total : ℕ
  total = length h.records

  -- after the last record every offer was weighed
  passed_all : (just : Option ℕ) (base rows : Rows G) → Fine s h just base total rows
      → (n : ℕ) → Least s (OffersTo s h base n) (waiting n (get_or rows n None))
  passed_all just base rows p n =
      least_iff s law (PassedTo s h just base total n) (OffersTo s h base n) _ to from (p.least n)
    where
      within : (r : ℕ) (rec : Record) → record_at h r ≡ Some rec → r < total
      within r rec e = elim (cases_lt r total) [
        | inl l ↦ l
        | inr l ↦ absurd (none_some (get_or_past h.records r None l) e)
      ]

      to : (a : Offer G) → PassedTo s h just base total n a → OffersTo s h base n a
      to a ((r, rec, e, f, w), q) = ((r, rec, e, f), q)

      from : (a : Offer G) → OffersTo s h base n a → PassedTo s h just base total n a
      from a ((r, rec, e, f), q) = ((r, rec, e, f, inr (within r rec e)), q)

  start_match : (k : ℕ) → k ≡ 1024
      → Match s h (record { rows = replicate k None; turn = 0 }) (start s h k)
  start_match k e =
      let none : Rows G = replicate k None in
      let wide : length none ≡ 1024 = length-replicate k None ∙ e in
      let f = first_fine s k law h in
      let p = pass_fine s law h wf None none wide total 0 none (omega arith) f in
      let c = tally_count s law h wf None none wide (λ rec. 0) (each_first s k)
      total 0 none (omega arith) f in
      record {
        sound = fresh_sound s law h wf k e;
        settled = p.settled;
        least = passed_all None none _ p;
        turns = refl;
        counts = omega (arith, c, count_none h.records);
      }

  module _ (st : State G) (w : Work G) (m : Match s h st w) where
    abbrev of_rule : Option (Offer G)
    of_rule = best s h st.rows (filled h.records)

    -- the engine chooses the best offer of the rule
    same_choice : chosen s w.rows ≡ of_rule
    same_choice = least_same s law (Offers s h st.rows) _ _ waits_first (least_best s law h st.rows)
      where
        waits_first : Least s (Offers s h st.rows) (chosen s w.rows)
        waits_first =
            least_iff s law (λ a. (n : ℕ) × OffersTo s h st.rows n a) (Offers s h st.rows) _
            (λ a u. u.1.0) (λ a u. (a.cell, (u, refl)))
            (least_union s law (OffersTo s h st.rows) (λ n. waiting n (get_or w.rows n None)) _
            m.least (least_chosen s law w.rows))

    length-rows : length w.rows ≡ 1024
    length-rows = sym (length-map w.rows settled_row) ∙ ap length m.settled ∙ m.sound.wide

    -- .. and so it settles the same cell, by the same record
    module _ (o : Offer G) (is_best : of_rule ≡ Some o) (early : st.turn < 1024) where
      abbrev sealed : ℕ → Rows G
      sealed t = seal o t w.rows

      abbrev work_after : ℕ → Work G
      work_after t = record {
        rows = pass s h (Some o.cell) 0 h.records (sealed t);
        turn = t + 1;
        count = w.count + tally s h (Some o.cell) 0 h.records (sealed t);
      }

      settled_match : (t : ℕ) → t ≡ st.turn → Match s h (settle_by st (Some o)) (work_after t)
      settled_match t q =
          let k = taken s law h wf st m.sound o is_best in
          let row = new_row st o in
          let just : Option ℕ = Some o.cell in
          let base : Rows G = set st.rows o.cell (Some row) in
          let wide : length base ≡ 1024 = length-set st.rows o.cell (Some row) ∙ m.sound.wide in
          let below : o.cell < length w.rows = omega (arith, length-rows, k.below) in
          let f = sealed_fine s h st.rows o.cell row k.free
          law w.rows m.settled below early m.least in
          let p = pass_fine s law h wf just base wide total 0 (sealed st.turn) (omega arith) f in
          let each = each_sealed s h st.rows o.cell row k.free in
          let was = ready_one st.rows in
          let c = tally_count s law h wf just base wide was each
          total 0 (sealed st.turn) (omega arith) f in
          subst (λ (t : ℕ). Match s h (settle_by st (Some o)) (work_after t)) (sym q) (record {
            sound = settled_sound s law h wf st m.sound o k;
            settled = p.settled;
            least = passed_all just base _ p;
            turns = omega arith;
            counts = omega (arith, c, m.counts);
          })

    by_choice : st.turn < 1024 → (x : Option (Offer G)) → of_rule ≡ x
        → Match s h (settle_by st x) (round_at s h w x)
    by_choice l None e = m
    by_choice l (Some o) e = settled_match o e l w.turn m.turns

    round_match : st.turn < 1024 → Match s h (step s h (filled h.records) st) (round s h w)
    round_match l =
        subst (λ (x : Option (Offer G)). Match s h (step s h (filled h.records) st) (round_at s h w x))
        (sym same_choice) (by_choice l of_rule refl)

  step_turn : (st : State G) (x : Option (Offer G)) → (settle_by st x).turn ≤ suc st.turn
  step_turn st None = omega arith
  step_turn st (Some o) = omega arith

  run_match : (fuel : ℕ) (st : State G) (w : Work G) → fuel + st.turn ≤ 1024 → Match s h st w
      → Match s h (settle s h (filled h.records) fuel st) (run s h fuel w)
  unfolding settle run
  run_match zero st w l m = m
  run_match (suc fuel) st w l m =
      let q = step_turn st (best s h st.rows (filled h.records)) in
      run_match fuel (step s h (filled h.records) st) (round s h w) (omega arith)
      (round_match st w m (omega arith))

  all_match : Match s h (graded s h) (all_turns s h)
  unfolding graded
  all_match =
      run_match 1024 (record { rows = replicate 1024 None; turn = 0 }) (start s h 1024) (omega arith)
      (start_match 1024 refl)

-- where the rule has no offer left nothing waits, so all rows are settled rows
settled_whole : {G : Type 0} (n : ℕ) (z : Option (Row G)) → waiting n z ≡ None → settled_row z ≡ z
settled_whole n None e = refl
settled_whole {G} n (Some row) e = go (ltb row.turn 1024) e
  where
    go : (t : Bool) → cond {A = Option (Offer G)} t None (Some (held_offer n row)) ≡ None
        → cond t (Some row) None ≡ Some row
    go true e = refl
    go false e = absurd (none_some e refl)

all_settled : {G : Type 0} (rows : Rows G) → ((n : ℕ) → settled_row (get_or rows n None) ≡ get_or rows n None)
    → settled_rows rows ≡ rows
all_settled [] f = refl
all_settled {G} (x ∷ xs) f = ap₂ {C = Rows G} ◌∷◌ (f 0) (all_settled xs (λ n. f (suc n)))

done_rows : {G : Type 0} (s : Scheme G) (law : Lawful s) (h : Meaning) (st : State G) (w : Work G)
    → Match s h st w → best s h st.rows (filled h.records) ≡ None → w.rows ≡ st.rows
done_rows {G} s law h st w m e = sym (all_settled w.rows whole) ∙ m.settled
  where
    nothing : (n : ℕ) (x : Option (Offer G)) → waiting n (get_or w.rows n None) ≡ x
        → waiting n (get_or w.rows n None) ≡ None
    nothing n None q = q
    nothing n (Some o) q =
        absurd (none_some e ((least_best s law h st.rows).first o ((m.least n).held o q).0).1)

    whole : (n : ℕ) → settled_row (get_or w.rows n None) ≡ get_or w.rows n None
    whole n = settled_whole n (get_or w.rows n None) (nothing n (waiting n (get_or w.rows n None)) refl)

-- what the engine computes is what the settling rule says
module _ {G : Type 0} (s : Scheme G) (law : Lawful s) (h : Meaning) (wf : WellFormed h) where
  pub rows_graded : (all_turns s h).rows ≡ (graded s h).rows
  rows_graded =
      done_rows s law h (graded s h) (all_turns s h) (all_match s law h wf) (graded_done s law h wf).1

  pub turn_graded : (all_turns s h).turn ≡ (graded s h).turn
  turn_graded = (all_match s law h wf).turns

  pub count_graded : (all_turns s h).count ≡ weighed s h
  count_graded = (all_match s law h wf).counts ∙ count_over_ready (graded s h).rows h.records
