-- The settling rule: which cells are reached, by which record, in which order.
-- It begins with no cell settled. Each step settles the cell with the best
-- candidate, until no cell has one.
use Rattle.std.specs.Prelude.{ℕ, zero, suc, ◌+◌, Bool, true, false, cond, ◌&&◌, List, [], ◌∷◌, replicate, is_some, Some, None, Option, ◌==◌, nat_lt, slice_index_or, slice_set}
use Rattle.model.specs.declared.record.Record.{Record}
use Rattle.model.specs.declared.record.Record.TheVariants.{Root, Link, Ephemeron}
use Rattle.model.specs.declared.scheme.Rank.{Rank}
use Rattle.model.specs.declared.scheme.Rank.TheVariants.{Before, Same, After}
use Rattle.model.specs.declared.row.Row.{Row}
use Rattle.model.specs.declared.row.Offer.{Offer}
use Rattle.model.specs.Schemes.{Scheme}
use Rattle.model.specs.Meaning.{Meaning, cell_at}

-- one place for each cell: None while it is unsettled
abbrev pub Rows : Type 0 → Type 0
Rows G = List (Option (Row G))

-- the cell that a record reaches
abbrev pub target : Record → ℕ
target (Root t) = t
target (Link s t k) = t
target (Ephemeron a b v) = v

-- a record is ready when all its sources are settled
abbrev pub ready : {G : Type 0} → Rows G → Record → Bool
ready rows (Root t) = true
ready rows (Link a t k) = is_some (slice_index_or rows a None)
ready rows (Ephemeron a b v) = is_some (slice_index_or rows a None) && is_some (slice_index_or rows b None)

abbrev pub with_grade : {G : Type 0} → Option (Row G) → (G → Option G) → Option G
with_grade None f = None
with_grade (Some row) f = f row.grade

-- the grade that record r gives a cell of that size; none unless it is ready
abbrev pub given : {G : Type 0} → Scheme G → Rows G → ℕ → ℕ → Record → Option G
given s rows size r (Root t) = Some (s.start r size)
given s rows size r (Link a t k) = with_grade (slice_index_or rows a None) (λ g. Some (s.along r size g k))
given s rows size r (Ephemeron a b v) =
    with_grade (slice_index_or rows a None) (λ g. with_grade (slice_index_or rows b None) (λ h. Some (s.join r size g h)))

abbrev pub size_or_none : Option ℕ → ℕ
size_or_none None = 0
size_or_none (Some n) = n

abbrev pub offered : {G : Type 0} → ℕ → ℕ → Option G → Option (Offer G)
offered c r None = None
offered c r (Some g) = Some (record { grade = g; cell = c; number = r })

-- what record r offers: its grade, to a cell that is unsettled
abbrev pub offer : {G : Type 0} → Scheme G → Meaning → Rows G → ℕ → Record → Option (Offer G)
offer s h rows r rec =
    cond (is_some (slice_index_or rows (target rec) None)) None
    (offered (target rec) r (given s rows (size_or_none (cell_at h (target rec))) r rec))

-- of two offers of one grade that of the lower cell is taken first, and for one
-- cell that of the lower record
abbrev pub earlier : {G : Type 0} → Rank → Offer G → Offer G → Bool
earlier Before a b = true
earlier After a b = false
earlier Same a b =
    cond (a.cell == b.cell) (nat_lt a.number b.number) (nat_lt a.cell b.cell)

abbrev pub better_of : {G : Type 0} → Scheme G → Option (Offer G) → Option (Offer G) → Option (Offer G)
better_of s None b = b
better_of s (Some a) None = Some a
better_of s (Some a) (Some b) = cond (earlier (s.rank b.grade a.grade) b a) (Some b) (Some a)

-- what stands at the places of a list, each with its number, the empty places left out
abbrev pub filled_from : {A : Type 0} → ℕ → List (Option A) → List (ℕ × A)
filled_from i [] = []
filled_from i (None ∷ xs) = filled_from (suc i) xs
filled_from i (Some x ∷ xs) = (i, x) ∷ filled_from (suc i) xs

abbrev pub filled : {A : Type 0} → List (Option A) → List (ℕ × A)
filled xs = filled_from 0 xs

-- the best offer of all: its grade is the best candidate, its cell the lowest
-- that has it, its record the lowest that gives it
abbrev pub best : {G : Type 0} → Scheme G → Meaning → Rows G → List (ℕ × Record) → Option (Offer G)
best s h rows [] = None
best s h rows (p ∷ ps) = better_of s (offer s h rows p.0 p.1) (best s h rows ps)

-- the rows, and how many cells are settled
pub record State (G : Type 0) : Type 0 where
  pub rows : Rows G
  pub turn : ℕ

-- the offer's cell is settled: the record holds it, and its turn is the count so far
abbrev pub settle_by : {G : Type 0} → State G → Option (Offer G) → State G
settle_by st None = st
settle_by st (Some o) = record {
  rows = slice_set st.rows o.cell (Some (record { grade = o.grade; holder = o.number; turn = st.turn }));
  turn = suc st.turn;
}

-- one step; nothing moves where there is no offer
abbrev pub step : {G : Type 0} → Scheme G → Meaning → List (ℕ × Record) → State G → State G
step s h ps st = settle_by st (best s h st.rows ps)

unfoldable pub settle : {G : Type 0} → Scheme G → Meaning → List (ℕ × Record) → ℕ → State G → State G
settle s h ps zero st = st
settle s h ps (suc fuel) st = settle s h ps fuel (step s h ps st)

-- the end of the rule: each step that finds an offer settles one of 1,024 cells
unfoldable pub graded : {G : Type 0} → Scheme G → Meaning → State G
graded s h = settle s h (filled h.records) 1024 (record { rows = replicate 1024 None; turn = 0 })

-- how many filled records are ready
unfoldable pub count_ready : {G : Type 0} → Rows G → List (Option Record) → ℕ
count_ready rows [] = 0
count_ready rows (None ∷ xs) = count_ready rows xs
count_ready rows (Some rec ∷ xs) = cond (ready rows rec) 1 0 + count_ready rows xs

-- how many are ready at the end
abbrev pub weighed : {G : Type 0} → Scheme G → Meaning → ℕ
weighed s h = count_ready (graded s h).rows h.records
