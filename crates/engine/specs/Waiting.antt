-- The tree of the offers that wait, for the engine's own proofs. Node 1024 + c is what waits
-- in the row of cell c; every lower node but node 0 holds the better of what its children hold,
-- nodes 2 i and 2 i + 1.
use Rattle.std.specs.Prelude.{◌≡◌, ℕ, ◌+◌, ◌-◌, ◌*◌, ◌<◌, cond, List, length, None, Option, nat_lt, slice_index_or}
use Rattle.std.specs.Coded.{Coded, Coded-set, codes}
use Rattle.model.specs.declared.row.Offer.{Offer}
use Rattle.model.specs.Schemes.{Scheme}
use Rattle.model.specs.Settling.{Rows, better_of}
use Rattle.offers.specs.Offers.{waiting}

-- the nodes above the rows
abbrev pub Tree : Type 0 → Type 0
Tree G = List (Option (Offer G))

-- what node i holds
abbrev pub held : {G : Type 0} → Rows G → Tree G → ℕ → Option (Offer G)
held rows tree i = cond (nat_lt i 1024) (slice_index_or tree i None) (waiting (i - 1024) (slice_index_or rows (i - 1024) None))

-- the better of what the children of node i hold
abbrev pub joined : {G : Type 0} → Scheme G → (ℕ → Option (Offer G)) → ℕ → Option (Offer G)
joined s on i = better_of s (on (2 * i)) (on (2 * i + 1))

-- the tree ranks the offers that wait in the rows: every node of it holds that
pub record Ranks {G : Type 0} (s : Scheme G) (rows : Rows G) (tree : Tree G) : Type 0 where
  pub wide : length tree ≡ 1024
  pub fair : (i : ℕ) → 0 < i → i < 1024 → held rows tree i ≡ joined s (held rows tree) i

-- .. and in one way at most, as a fact has to that a struct keeps
pub Ranks-prop : {G : Type 0} → Coded G → (s : Scheme G) (rows : Rows G) (tree : Tree G)
    → IsProp (Ranks s rows tree)
Ranks-prop code s rows tree = Prim.hlevel (code, codes, Coded-set)
