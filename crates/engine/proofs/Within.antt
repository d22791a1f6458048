-- The cells that records and offers name are below the number of rows.
use Rattle.std.proofs.Common.{◌≡◌, ℕ, ◌<◌, Bool, true, false, cond, ltb, length, get_or, Some, None, Option, IfSome, sym, refl, ap, inl, inr, arith}
use Rattle.std.proofs.lemmas.List.{get_or_past}
use Rattle.std.proofs.lemmas.Bool.{cases_lt}
use Rattle.model.specs.declared.record.Record.{Record}
use Rattle.model.specs.declared.record.Record.TheVariants.{Root, Link, Ephemeron}
use Rattle.model.specs.declared.row.Row.{Row}
use Rattle.model.specs.declared.row.Offer.{Offer}
use Rattle.model.specs.Schemes.{Scheme, Lawful}
use Rattle.model.specs.Meaning.{Meaning, WellFormed, record_at}
use Rattle.model.specs.Settling.{Rows, target}
use Rattle.model.proofs.Filled.{none_some, some_same}
use Rattle.model.proofs.Formed.{Filled, cell_below, named_filled}
use Rattle.offers.specs.Offers.{held_offer, waiting}
use Rattle.engine.specs.Working.{chosen, SourcesWithin}
use Rattle.engine.proofs.Least.{least_chosen}

-- a filled record names filled cells, and those are below 1,024
module _ (h : Meaning) (wf : WellFormed h) where
  below : (c : ℕ) → Filled h c → c < 1024
  below c f = cell_below h wf c f.0 f.1

  pub names_within : (r : ℕ) (rec : Record) → Some rec ≡ record_at h r
      → SourcesWithin 1024 rec × (target rec < 1024)
  names_within r (Root t) e = (tt, below t (named_filled h wf r (Root t) (sym e)))
  names_within r (Link a t k) e =
      let p = named_filled h wf r (Link a t k) (sym e) in
      (below a p.0, below t p.1)
  names_within r (Ephemeron a b v) e =
      let p = named_filled h wf r (Ephemeron a b v) (sym e) in
      ((below a p.0, below b p.1), below v p.2)

-- an offer waits in the row of its own cell
module _ {G : Type 0} (s : Scheme G) (law : Lawful s) where
  waiting_cell : (n : ℕ) (z : Option (Row G)) (o : Offer G) → waiting n z ≡ Some o → o.cell ≡ n
  waiting_cell n None o e = absurd (none_some refl e)
  waiting_cell n (Some row) o e = go (ltb row.turn 1024) e
    where
      go : (t : Bool) → cond {A = Option (Offer G)} t None (Some (held_offer n row)) ≡ Some o → o.cell ≡ n
      go true e = absurd (none_some refl e)
      go false e = sym (ap (λ (x : Offer G). x.cell) (some_same refl e))

  pub chosen_within : (rows : Rows G) (o : Offer G) → Some o ≡ chosen s rows → o.cell < length rows
  chosen_within rows o e =
      let p = (least_chosen s law rows).held o (sym e) in
      let q = waiting_cell p.0 (get_or rows p.0 None) o p.1 in
      elim (cases_lt p.0 (length rows)) [
        | inl l ↦ rw q l
        | inr l ↦ absurd (none_some (ap (waiting p.0) (get_or_past rows p.0 None l)) p.1)
      ]

  pub chosen_below : (rows : Rows G) → length rows ≡ 1024 → (x : Option (Offer G)) → x ≡ chosen s rows
      → IfSome x (λ o. o.cell < 1024)
  chosen_below rows wide None e = tt
  chosen_below rows wide (Some o) e = omega (arith, chosen_within rows o e)
