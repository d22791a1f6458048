-- Offers as they wait in the rows while grading goes on, and which takes another's place.
use Rattle.std.specs.Prelude.{ℕ, Bool, true, false, cond, Some, None, Option, nat_lt}
use Rattle.model.specs.declared.row.Row.{Row}
use Rattle.model.specs.declared.row.Offer.{Offer}
use Rattle.model.specs.Schemes.{Scheme}
use Rattle.model.specs.Settling.{earlier}

-- a row is settled where its turn is below 1,024; any other waits
abbrev pub settled_row : {G : Type 0} → Option (Row G) → Option (Row G)
settled_row None = None
settled_row (Some row) = cond (nat_lt row.turn 1024) (Some row) None

-- what a row that waits holds, as an offer to its cell c
abbrev pub held_offer : {G : Type 0} → ℕ → Row G → Offer G
held_offer c row = record { grade = row.grade; cell = c; number = row.holder }

abbrev pub waiting : {G : Type 0} → ℕ → Option (Row G) → Option (Offer G)
waiting c None = None
waiting c (Some row) = cond (nat_lt row.turn 1024) None (Some (held_offer c row))

abbrev pub row_waiting : {G : Type 0} → Offer G → Row G
row_waiting o = record { grade = o.grade; holder = o.number; turn = 65535 }

-- an offer is taken before another, if there is any
abbrev pub overtaken : {G : Type 0} → Scheme G → Offer G → Option (Offer G) → Bool
overtaken s o None = true
overtaken s o (Some old) = earlier (s.rank o.grade old.grade) o old

-- an offer takes a row where the cell is unsettled and what waits there, if anything, comes later
abbrev pub improved : {G : Type 0} → Scheme G → Offer G → Option (Row G) → Bool
improved s o None = true
improved s o (Some row) =
    cond (nat_lt row.turn 1024) false
    (earlier (s.rank o.grade row.grade) o (held_offer o.cell row))
