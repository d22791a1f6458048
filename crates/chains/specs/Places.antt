-- The places at which records draw on cells, and the chain of the places of one cell.
-- Record r has two places: 2 r for a link's source or an ephemeron's table, and 2 r + 1
-- for an ephemeron's key.
use Rattle.std.specs.Prelude.{◌≡◌, ℕ, zero, suc, ◌+◌, ◌-◌, ◌/◌, ◌%◌, ◌<◌, ◌≤◌, Bool, false, cond, List, length, Some, None, Option, ◌==◌, nat_lt, slice_index_or, slice_set}
use Rattle.model.specs.declared.record.Record.{Record}
use Rattle.model.specs.declared.record.Record.TheVariants.{Root, Link, Ephemeron}
use Rattle.model.specs.Meaning.{Meaning, record_at}
use Rattle.chains.specs.declared.Chains.{Chains}

-- the cell at the first place of a record
abbrev pub first_source : Option Record → Option ℕ
first_source None = None
first_source (Some (Root t)) = None
first_source (Some (Link a t k)) = Some a
first_source (Some (Ephemeron a b v)) = Some a

-- the cell at the second place; where key and table are one cell, only the first place counts
abbrev pub second_source : Option Record → Option ℕ
second_source None = None
second_source (Some (Root t)) = None
second_source (Some (Link a t k)) = None
second_source (Some (Ephemeron a b v)) = cond (b == a) None (Some b)

-- the cell at place p
abbrev pub source_at : Meaning → ℕ → Option ℕ
source_at h p =
    cond (p % 2 == 0) (first_source (record_at h (p / 2))) (second_source (record_at h (p / 2)))

-- whether a place with the cell x belongs to cell c
abbrev pub belongs : Option ℕ → ℕ → Bool
belongs None c = false
belongs (Some a) c = a == c

-- the lowest of the n places from p on that belongs to cell c; p + n where none does
unfoldable pub seek : Meaning → ℕ → ℕ → ℕ → ℕ
seek h c p zero = p
seek h c p (suc n) = cond (belongs (source_at h p) c) p (seek h c (p + 1) n)

-- the lowest place of cell c from p on; 8192 where there is none
abbrev pub lowest : Meaning → ℕ → ℕ → ℕ
lowest h c p = seek h c p (8192 - p)

-- a number as a place, where it is one
abbrev pub place_if : ℕ → Option ℕ
place_if p = cond (nat_lt p 8192) (Some p) None

-- a place at the front of its cell's chain
abbrev pub firsts_with : ℕ → Option ℕ → List ℕ → List ℕ
firsts_with p None firsts = firsts
firsts_with p (Some c) firsts = slice_set firsts c p

abbrev pub nexts_with : ℕ → Option ℕ → List ℕ → List ℕ → List ℕ
nexts_with p None firsts nexts = nexts
nexts_with p (Some c) firsts nexts = slice_set nexts p (slice_index_or firsts c 8192)

-- each cell's lowest place from p on, and after each of these places the next of its cell
pub record Linked (h : Meaning) (p : ℕ) (firsts nexts : List ℕ) : Type 0 where
  pub wide : length firsts ≡ 1024
  pub long : length nexts ≡ 8192
  pub each_first : (c : ℕ) → c < 1024 → slice_index_or firsts c 8192 ≡ lowest h c p
  pub each_next : (c q : ℕ) → p ≤ q → q < 8192 → source_at h q ≡ Some c
      → slice_index_or nexts q 8192 ≡ lowest h c (q + 1)

-- the chains lead through all the places of each cell
abbrev pub Chained : Meaning → Chains → Type 0
Chained h chains = Linked h 0 chains.first chains.next
