-- How the engine works, for its own proofs; grade's promise mentions none of this.
-- Its steps as functions over lists: offers, a look at every record, turns. The code finds the same by
-- a tree and by chains.
use Rattle.std.specs.Prelude.{ℕ, zero, suc, ◌+◌, ◌<◌, Bool, true, false, cond, ◌||◌, List, [], ◌∷◌, map, replicate, is_some, Some, None, Option, ◌==◌, nat_lt, slice_index_or, slice_set}
use Rattle.model.specs.declared.record.Record.{Record}
use Rattle.model.specs.declared.record.Record.TheVariants.{Root, Link, Ephemeron}
use Rattle.model.specs.declared.row.Row.{Row}
use Rattle.model.specs.declared.row.Offer.{Offer}
use Rattle.model.specs.Schemes.{Scheme}
use Rattle.model.specs.Meaning.{Meaning, cell_at}
use Rattle.offers.specs.Offers.{settled_row, held_offer, waiting, row_waiting}
use Rattle.model.specs.Settling.{Rows, target, given, earlier, better_of, size_or_none}

-- the rows of settled cells
abbrev pub settled_rows : {G : Type 0} → Rows G → Rows G
settled_rows rows = map settled_row rows

-- the row of a cell after an offer to it
abbrev pub proposed : {G : Type 0} → Scheme G → Offer G → Option (Row G) → Option (Row G)
proposed s o None = Some (row_waiting o)
proposed s o (Some row) =
    cond (nat_lt row.turn 1024) (Some row)
    (cond (earlier (s.rank o.grade row.grade) o (held_offer o.cell row))
    (Some (row_waiting o)) (Some row))

abbrev pub propose : {G : Type 0} → Scheme G → Offer G → Rows G → Rows G
propose s o rows = slice_set rows o.cell (proposed s o (slice_index_or rows o.cell None))

-- the grade that a record gives now
abbrev pub gives : {G : Type 0} → Scheme G → Meaning → Rows G → ℕ → Record → Option G
gives s h rows r rec = given s (settled_rows rows) (size_or_none (cell_at h (target rec))) r rec

-- the rows after record r has been weighed
abbrev pub weighed_by : {G : Type 0} → Scheme G → Rows G → ℕ → Record → Option G → Rows G
weighed_by s rows r rec None = rows
weighed_by s rows r rec (Some g) = propose s (record { grade = g; cell = target rec; number = r }) rows

-- the record is to be weighed now that the cell `just` is settled; at first, where it is a root
abbrev pub wakes : Option ℕ → Record → Bool
wakes None (Root t) = true
wakes None (Link a t k) = false
wakes None (Ephemeron a b v) = false
wakes (Some c) (Root t) = false
wakes (Some c) (Link a t k) = a == c
wakes (Some c) (Ephemeron a b v) = a == c || b == c

abbrev pub visit : {G : Type 0} → Scheme G → Meaning → Option ℕ → ℕ → Option Record → Rows G → Rows G
visit s h just r None rows = rows
visit s h just r (Some rec) rows =
    cond (wakes just rec) (weighed_by s rows r rec (gives s h rows r rec)) rows

-- .. and whether it was ready
abbrev pub visited : {G : Type 0} → Scheme G → Meaning → Option ℕ → ℕ → Option Record → Rows G → Bool
visited s h just r None rows = false
visited s h just r (Some rec) rows = cond (wakes just rec) (is_some (gives s h rows r rec)) false

-- all the records from r on: the rows after them, and how many were ready
unfoldable pub pass : {G : Type 0} → Scheme G → Meaning → Option ℕ → ℕ → List (Option Record)
    → Rows G → Rows G
pass s h just r [] rows = rows
pass s h just r (x ∷ xs) rows = pass s h just (r + 1) xs (visit s h just r x rows)

unfoldable pub tally : {G : Type 0} → Scheme G → Meaning → Option ℕ → ℕ → List (Option Record)
    → Rows G → ℕ
tally s h just r [] rows = 0
tally s h just r (x ∷ xs) rows =
    cond (visited s h just r x rows) 1 0 + tally s h just (r + 1) xs (visit s h just r x rows)

-- the best of b and the offers that wait from cell i on
unfoldable pub scan : {G : Type 0} → Scheme G → ℕ → Rows G → Option (Offer G) → Option (Offer G)
scan s i [] b = b
scan s i (x ∷ xs) b = scan s (i + 1) xs (better_of s b (waiting i x))

abbrev pub chosen : {G : Type 0} → Scheme G → Rows G → Option (Offer G)
chosen s rows = scan s 0 rows None

-- the cell of an offer settled in its turn
abbrev pub seal : {G : Type 0} → Offer G → ℕ → Rows G → Rows G
seal o turn rows =
    slice_set rows o.cell (Some (record { grade = o.grade; holder = o.number; turn = turn }))

-- a turn: the rows after it, and how many records it weighed; none where nothing waits
abbrev pub turned : {G : Type 0} → Scheme G → Meaning → ℕ → Rows G → Option (Offer G) → Rows G
turned s h turn rows None = rows
turned s h turn rows (Some o) = pass s h (Some o.cell) 0 h.records (seal o turn rows)

abbrev pub turn_count : {G : Type 0} → Scheme G → Meaning → ℕ → Rows G → Option (Offer G) → Option ℕ
turn_count s h turn rows None = None
turn_count s h turn rows (Some o) = Some (tally s h (Some o.cell) 0 h.records (seal o turn rows))

-- the rows between turns, how many turns were taken, and how many records weighed
pub record Work (G : Type 0) : Type 0 where
  pub rows : Rows G
  pub turn : ℕ
  pub count : ℕ

abbrev pub round_by : {G : Type 0} → Work G → Rows G → Option ℕ → Work G
round_by w rows None = w
round_by w rows (Some k) = record { rows = rows; turn = w.turn + 1; count = w.count + k }

abbrev pub round_at : {G : Type 0} → Scheme G → Meaning → Work G → Option (Offer G) → Work G
round_at s h w x = round_by w (turned s h w.turn w.rows x) (turn_count s h w.turn w.rows x)

abbrev pub round : {G : Type 0} → Scheme G → Meaning → Work G → Work G
round s h w = round_at s h w (chosen s w.rows)

unfoldable pub run : {G : Type 0} → Scheme G → Meaning → ℕ → Work G → Work G
run s h zero w = w
run s h (suc fuel) w = run s h fuel (round s h w)

-- every row empty, and the records that need no cell settled weighed
abbrev pub start : {G : Type 0} → Scheme G → Meaning → ℕ → Work G
start s h n = record {
  rows = pass s h None 0 h.records (replicate n None);
  turn = 0;
  count = tally s h None 0 h.records (replicate n None);
}

abbrev pub all_turns : {G : Type 0} → Scheme G → Meaning → Work G
all_turns s h = run s h 1024 (start s h 1024)

-- the cells that a record draws on have a row
abbrev pub SourcesWithin : ℕ → Record → Type 0
SourcesWithin n (Root t) = Unit {0}
SourcesWithin n (Link a t k) = a < n
SourcesWithin n (Ephemeron a b v) = (a < n) × (b < n)
