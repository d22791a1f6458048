-- A tree of offers stays fair as offers come and go, and its top is the best of all.
use Rattle.std.proofs.Common.{◌≡◌, ℕ, zero, suc, ◌+◌, ◌-◌, ◌*◌, ◌/◌, ◌%◌, ◌<◌, ◌≤◌, Bool, true, false, cond, ltb, ◌⊎◌, length, get_or, set, replicate, Some, None, Option, sym, refl, ap, ◌∙◌, subst, ap₂, inl, inr, arith}
use Rattle.std.proofs.lemmas.List.{get_or-set_same, get_or-set_other, get_or_past, get_or-replicate, length-replicate}
use Rattle.std.proofs.lemmas.Bool.{cases_eq, cases_lt, lt-ltb, le-ltb, true≢false, false≢true}
use Rattle.model.specs.declared.row.Row.{Row}
use Rattle.model.specs.declared.row.Offer.{Offer}
use Rattle.model.specs.Schemes.{Scheme, Lawful}
use Rattle.model.specs.Settling.{Rows, earlier, better_of}
use Rattle.model.proofs.Filled.{none_some}
use Rattle.model.proofs.Choice.{better_sound}
use Rattle.model.proofs.Order.{ComesBefore, first_refl}
use Rattle.offers.specs.Offers.{held_offer, waiting, row_waiting, overtaken, improved}
use Rattle.engine.specs.Working.{chosen, seal}
use Rattle.engine.specs.Waiting.{Tree, held, joined, Ranks}
use Rattle.engine.proofs.Least.{Least, WaitsSomewhere, least_same, least_iff, least_self, least_join}
use Rattle.engine.proofs.Least.{least_chosen, before_left, before_right}

-- node k is given v, and no other node changes
pub record Given {G : Type 0} (on on' : ℕ → Option (Offer G)) (k : ℕ) (v : Option (Offer G)) : Type 0 where
  pub here : on' k ≡ v
  pub there : (i : ℕ) → (i ≡ k → ⊥) → on' i ≡ on i

-- every node above the rows but k holds the better of what its children hold
abbrev pub FairBut : {G : Type 0} → Scheme G → ℕ → (ℕ → Option (Offer G)) → Type 0
FairBut s k on = (i : ℕ) → 0 < i → i < 1024 → (i ≡ k → ⊥) → on i ≡ joined s on i

-- writing a node of the tree, or a row below it
module _ {G : Type 0} where
  above : (rows : Rows G) (tree : Tree G) (i : ℕ) → i < 1024 → held rows tree i ≡ get_or tree i None
  above rows tree i l = rw (lt-ltb i 1024 l)

  below : (rows : Rows G) (tree : Tree G) (i : ℕ) → 1024 ≤ i
      → held rows tree i ≡ waiting (i - 1024) (get_or rows (i - 1024) None)
  below rows tree i l = rw (le-ltb i 1024 l)

  pub given_node : (rows : Rows G) (tree tree' : Tree G) (k : ℕ) (v : Option (Offer G)) → length tree ≡ 1024
      → k < 1024 → tree' ≡ set tree k v → Given (held rows tree) (held rows tree') k v
  given_node rows tree tree' k v wide l e = record {
    here = above rows tree' k l ∙ ap (λ (t : Tree G). get_or t k None) e
        ∙ get_or-set_same tree k v None (omega arith);
    there = λ i x. elim (cases_lt i 1024) [
      | inl m ↦ above rows tree' i m ∙ ap (λ (t : Tree G). get_or t i None) e
          ∙ get_or-set_other tree k i v None x ∙ sym (above rows tree i m)
      | inr m ↦ below rows tree' i m ∙ sym (below rows tree i m)
    ];
  }

  pub given_row : (rows rows' : Rows G) (tree : Tree G) (c : ℕ) (z : Option (Row G)) → length rows ≡ 1024
      → c < 1024 → rows' ≡ set rows c z → Given (held rows tree) (held rows' tree) (1024 + c) (waiting c z)
  given_row rows rows' tree c z wide l e =
      let n : 1024 + c - 1024 ≡ c = omega arith in
      record {
        here = below rows' tree (1024 + c) (omega arith)
            ∙ ap (λ (k : ℕ). waiting k (get_or rows' k None)) n
            ∙ ap (waiting c) (ap (λ (r : Rows G). get_or r c None) e ∙ get_or-set_same rows c z None (omega arith));
        there = λ i x. elim (cases_lt i 1024) [
          | inl m ↦ above rows' tree i m ∙ sym (above rows tree i m)
          | inr m ↦ below rows' tree i m
              ∙ ap (waiting (i - 1024)) (ap (λ (r : Rows G). get_or r (i - 1024) None) e
              ∙ get_or-set_other rows c (i - 1024) z None (λ y. x (omega arith)))
              ∙ sym (below rows tree i m)
        ];
      }

module _ {G : Type 0} (s : Scheme G) where
  overtakes_not : (o : Offer G) (x : Option (Offer G)) → overtaken s o x ≡ false
      → better_of s x (Some o) ≡ x
  overtakes_not o None e = absurd (true≢false e)
  overtakes_not o (Some old) e = rw e

  overtakes_so : (o : Offer G) (x : Option (Offer G)) → overtaken s o x ≡ true
      → better_of s x (Some o) ≡ Some o
  overtakes_so o None e = refl
  overtakes_so o (Some old) e = rw e

  -- where a node is given something, only its parent may be unfair after that
  module _ (on on' : ℕ → Option (Offer G)) (k : ℕ) (low : 0 < k) (v : Option (Offer G))
      (gave : Given on on' k v) where
    same_joined : (i : ℕ) → (2 * i ≡ k → ⊥) → (2 * i + 1 ≡ k → ⊥) → joined s on' i ≡ joined s on i
    same_joined i x y = ap₂ (better_of s) (gave.there (2 * i) x) (gave.there (2 * i + 1) y)

    pub but_up : FairBut s k on → (k < 1024 → v ≡ joined s on k) → FairBut s (k / 2) on'
    but_up fair here i l m x =
        let keep : joined s on' i ≡ joined s on i =
        same_joined i (λ e. x (omega arith)) (λ e. x (omega arith)) in
        elim (cases_eq i k) [
          | inl e ↦
              subst (λ (j : ℕ). on' j ≡ joined s on j) (sym e) (gave.here ∙ here (omega arith))
              ∙ sym keep
          | inr e ↦ gave.there i e ∙ fair i l m e ∙ sym keep
        ]

  -- where all nodes are fair again
  abbrev pub Fair : (ℕ → Option (Offer G)) → Type 0
  Fair on = (i : ℕ) → 0 < i → i < 1024 → on i ≡ joined s on i

  fair_at : (on : ℕ → Option (Offer G)) (k : ℕ) → FairBut s k on → on k ≡ joined s on k → Fair on
  fair_at on k fair here i l m = elim (cases_eq i k) [
    | inl e ↦ subst (λ (j : ℕ). on j ≡ joined s on j) (sym e) here
    | inr e ↦ fair i l m e
  ]

  pub fair_top : (on : ℕ → Option (Offer G)) (k : ℕ) → k ≤ 0 → FairBut s k on → Fair on
  fair_top on k z fair i l m = fair i l m (λ e. absurd (omega arith))

module _ {G : Type 0} (s : Scheme G) (law : Lawful s) where
  -- the best of three is the same however they are compared
  module _ (x y z : Option (Offer G)) where
    abbrev Any : Option (Offer G) → Offer G → Type 0
    Any v a = v ≡ Some a

    pairs : (u v : Option (Offer G)) → Least s (λ a. Any u a ⊎ Any v a) (better_of s u v)
    pairs u v = least_join s law (Any u) (Any v) u v (least_self s law u) (least_self s law v)

    abbrev Left : Offer G → Type 0
    Left a = (Any x a ⊎ Any y a) ⊎ Any z a

    left_least : Least s Left (better_of s (better_of s x y) z)
    left_least =
        least_join s law (λ a. Any x a ⊎ Any y a) (Any z) (better_of s x y) z (pairs x y) (least_self s law z)

    pub better_assoc : better_of s (better_of s x y) z ≡ better_of s x (better_of s y z)
    better_assoc =
        least_same s law Left _ _ left_least
        (least_iff s law (λ a. Any x a ⊎ (Any y a ⊎ Any z a)) Left _ to from
        (least_join s law (Any x) (λ a. Any y a ⊎ Any z a) x (better_of s y z)
        (least_self s law x) (pairs y z)))
      where
        to : (a : Offer G) → Any x a ⊎ (Any y a ⊎ Any z a) → Left a
        to a (inl u) = inl (inl u)
        to a (inr (inl u)) = inl (inr u)
        to a (inr (inr u)) = inr u

        from : (a : Offer G) → Left a → Any x a ⊎ (Any y a ⊎ Any z a)
        from a (inl (inl u)) = inl u
        from a (inl (inr u)) = inr (inl u)
        from a (inr u) = inr (inr u)

    pub better_swap : better_of s (better_of s x y) z ≡ better_of s (better_of s x z) y
    better_swap =
        least_same s law Left _ _ left_least
        (least_iff s law (λ a. (Any x a ⊎ Any z a) ⊎ Any y a) Left _ to from
        (least_join s law (λ a. Any x a ⊎ Any z a) (Any y) (better_of s x z) y
        (pairs x z) (least_self s law y)))
      where
        to : (a : Offer G) → (Any x a ⊎ Any z a) ⊎ Any y a → Left a
        to a (inl (inl u)) = inl (inl u)
        to a (inl (inr u)) = inr u
        to a (inr u) = inl (inr u)

        from : (a : Offer G) → Left a → (Any x a ⊎ Any z a) ⊎ Any y a
        from a (inl (inl u)) = inl (inl u)
        from a (inl (inr u)) = inr u
        from a (inr u) = inl (inr u)

  -- an offer took node k: its parent is owed the better of itself and the offer
  module _ (on on' : ℕ → Option (Offer G)) (k : ℕ) (low : 1 < k) (high : k < 2048) (o : Offer G)
      (gave : Given on on' k (Some o)) (fair : FairBut s k on)
      (took : better_of s (on k) (Some o) ≡ Some o) where
    here_at : (j : ℕ) → k ≡ j → on' j ≡ Some o
    here_at j e = subst (λ (n : ℕ). on' n ≡ Some o) e gave.here

    took_at : (j : ℕ) → k ≡ j → better_of s (on j) (Some o) ≡ Some o
    took_at j e = subst (λ (n : ℕ). better_of s (on n) (Some o) ≡ Some o) e took

    owed_by : (p : ℕ) → 0 < p → p < 1024 → (k ≡ 2 * p) ⊎ (k ≡ 2 * p + 1)
        → better_of s (on p) (Some o) ≡ joined s on' p
    owed_by p l m (inl e) =
        ap (λ (x : Option (Offer G)). better_of s x (Some o)) (fair p l m (λ x. absurd (omega arith)))
        ∙ better_swap (on (2 * p)) (on (2 * p + 1)) (Some o)
        ∙ ap (λ (x : Option (Offer G)). better_of s x (on (2 * p + 1))) (took_at (2 * p) e)
        ∙ sym (ap₂ (better_of s) (here_at (2 * p) e) (gave.there (2 * p + 1) (λ x. absurd (omega arith))))
    owed_by p l m (inr e) =
        ap (λ (x : Option (Offer G)). better_of s x (Some o)) (fair p l m (λ x. absurd (omega arith)))
        ∙ better_assoc (on (2 * p)) (on (2 * p + 1)) (Some o)
        ∙ ap (better_of s (on (2 * p))) (took_at (2 * p + 1) e)
        ∙ sym (ap₂ (better_of s) (gave.there (2 * p) (λ x. absurd (omega arith))) (here_at (2 * p + 1) e))

    owed_up : better_of s (on' (k / 2)) (Some o) ≡ joined s on' (k / 2)
    owed_up =
        ap (λ (x : Option (Offer G)). better_of s x (Some o)) (gave.there (k / 2) (λ x. absurd (omega arith)))
        ∙ elim (cases_eq (k % 2) 0) [
          | inl x ↦ owed_by (k / 2) (omega arith) (omega arith) (inl (omega arith))
          | inr x ↦ owed_by (k / 2) (omega arith) (omega arith) (inr (omega arith))
        ]

  -- node k may be unfair: it is owed the better of itself and the offer
  pub record Owed (o : Offer G) (k : ℕ) (on : ℕ → Option (Offer G)) : Type 0 where
    pub fair : FairBut s k on
    pub owes : 0 < k → better_of s (on k) (Some o) ≡ joined s on k

  -- an offer goes up from node k to its parent ..
  entered : (on on' : ℕ → Option (Offer G)) (k : ℕ) (o : Offer G) → 0 < k → k < 2048
      → Given on on' k (Some o) → FairBut s k on → better_of s (on k) (Some o) ≡ Some o
      → (k < 1024 → Some o ≡ joined s on k) → Owed o (k / 2) on'
  entered on on' k o low high gave fair took here = record {
    fair = but_up s on on' k low (Some o) gave fair here;
    owes = λ l. owed_up on on' k (omega arith) high o gave fair took;
  }

  pub enters : (rows rows' : Rows G) (tree : Tree G) (o : Offer G) (w : Row G) → length rows ≡ 1024
      → o.cell < 1024 → Ranks s rows tree → w ≡ row_waiting o → rows' ≡ set rows o.cell (Some w)
      → better_of s (waiting o.cell (get_or rows o.cell None)) (Some o) ≡ Some o
      → Owed o ((1024 + o.cell) / 2) (held rows' tree)
  enters rows rows' tree o w wide l ranks is e took =
      let c = o.cell in
      let e' : rows' ≡ set rows c (Some (row_waiting o)) =
      e ∙ ap (λ (x : Row G). set rows c (Some x)) is in
      let gave = given_row rows rows' tree c (Some (row_waiting o)) wide l e' in
      let n : 1024 + c - 1024 ≡ c = omega arith in
      let took' : better_of s (held rows tree (1024 + c)) (Some o) ≡ Some o =
      ap (λ (x : Option (Offer G)). better_of s x (Some o))
      (below rows tree (1024 + c) (omega arith) ∙ ap (λ (k : ℕ). waiting k (get_or rows k None)) n) ∙ took in
      entered (held rows tree) (held rows' tree) (1024 + c) o (omega arith) (omega arith) gave
      (λ i k m _. ranks.fair i k m) took' (λ k. absurd (omega arith))

  module _ (rows : Rows G) (tree : Tree G) (k : ℕ) (o : Offer G) (x : Option (Offer G)) (b : Bool)
      (low : 0 < k) (high : k < 1024) (is : x ≡ get_or tree k None) (test : b ≡ overtaken s o x)
      (owed : Owed o k (held rows tree)) (wide : length tree ≡ 1024) where
    abbrev now : ℕ → Option (Offer G)
    now = held rows tree

    over : (t : Bool) → b ≡ t → overtaken s o (now k) ≡ t
    over t e = ap (overtaken s o) (above rows tree k high ∙ sym is) ∙ sym test ∙ e

    pub goes_on : (tree' : Tree G) → b ≡ true → tree' ≡ set tree k (Some o)
        → Owed o (k / 2) (held rows tree')
    goes_on tree' e t =
        let took = overtakes_so s o (now k) (over true e) in
        entered now (held rows tree') k o low (omega arith)
        (given_node rows tree tree' k (Some o) wide high t) owed.fair took
        (λ _. sym took ∙ owed.owes low)

    -- .. until one holds what comes before it
    pub goes_no_further : b ≡ false → Ranks s rows tree
    goes_no_further e = record {
      wide = wide;
      fair = fair_at s now k owed.fair (sym (overtakes_not s o (now k) (over false e)) ∙ owed.owes low);
    }

  -- the top of the tree is the best of the offers that wait
  module _ (rows : Rows G) (long : length rows ≡ 1024) (tree : Tree G) (ranks : Ranks s rows tree) where
    abbrev on : ℕ → Option (Offer G)
    on = held rows tree

    held_at : (n i : ℕ) → 2048 ≤ i + n → 0 < i → i < 2048 → (o : Offer G) → on i ≡ Some o
        → WaitsSomewhere rows o
    held_at zero i e l m o f = absurd (omega arith)
    held_at (suc n) i e l m o f = elim (cases_lt i 1024) [
      | inl k ↦ elim (better_sound s law (on (2 * i)) (on (2 * i + 1)) o (sym (ranks.fair i l k) ∙ f)) [
        | inl g ↦ held_at n (2 * i) (omega arith) (omega arith) (omega arith) o g
        | inr g ↦ held_at n (2 * i + 1) (omega arith) (omega arith) (omega arith) o g
      ]
      | inr k ↦ (i - 1024, sym (below rows tree i k) ∙ f)
    ]

    module _ (a : Offer G) where
      parent : (i p : ℕ) → 0 < p → p < 1024 → (i ≡ 2 * p) ⊎ (i ≡ 2 * p + 1)
          → ComesBefore s (on i) a → ComesBefore s (on p) a
      parent i p l m (inl e) f =
          subst (λ (x : Option (Offer G)). ComesBefore s x a) (sym (ranks.fair p l m))
          (before_left s law a (on (2 * p)) (on (2 * p + 1)) (subst (λ (j : ℕ). ComesBefore s (on j) a) e f))
      parent i p l m (inr e) f =
          subst (λ (x : Option (Offer G)). ComesBefore s x a) (sym (ranks.fair p l m))
          (before_right s law a (on (2 * p)) (on (2 * p + 1)) (subst (λ (j : ℕ). ComesBefore s (on j) a) e f))

      rises : (n i : ℕ) → i ≤ n → 0 < i → i < 2048 → ComesBefore s (on i) a → ComesBefore s (on 1) a
      rises zero i e l m f = absurd (omega arith)
      rises (suc n) i e l m f = elim (cases_eq i 1) [
        | inl x ↦ subst (λ (j : ℕ). ComesBefore s (on j) a) x f
        | inr x ↦
            let q : (i ≡ 2 * (i / 2)) ⊎ (i ≡ 2 * (i / 2) + 1) = elim (cases_eq (i % 2) 0) [
              | inl y ↦ inl (omega arith)
              | inr y ↦ inr (omega arith)
            ] in
            rises n (i / 2) (omega arith) (omega arith) (omega arith)
            (parent i (i / 2) (omega arith) (omega arith) q f)
      ]

      waits : (n : ℕ) → on (1024 + n) ≡ waiting n (get_or rows n None)
      waits n =
          let e : 1024 + n - 1024 ≡ n = omega arith in
          below rows tree (1024 + n) (omega arith) ∙ ap (λ (k : ℕ). waiting k (get_or rows k None)) e

      waits_first : WaitsSomewhere rows a → ComesBefore s (on 1) a
      waits_first (n, e) = elim (cases_lt n 1024) [
        | inl l ↦ rises 2048 (1024 + n) (omega arith) (omega arith) (omega arith)
            (a, waits n ∙ e, first_refl s law a)
        | inr l ↦ absurd (none_some (ap (waiting n) (get_or_past rows n None (omega arith))) e)
      ]

    pub top_chosen : get_or tree 1 None ≡ chosen s rows
    top_chosen =
        least_same s law (WaitsSomewhere rows) (on 1) (chosen s rows)
        (record { held = held_at 2048 1 (omega arith) (omega arith) (omega arith); first = waits_first })
        (least_chosen s law rows)

module _ {G : Type 0} (s : Scheme G) where
  -- a tree over empty rows
  pub ranks_none : (rows : Rows G) (tree : Tree G) → rows ≡ replicate 1024 None → tree ≡ replicate 1024 None
      → Ranks s rows tree
  ranks_none rows tree e f =
      let empty : (i : ℕ) → i < 2048 → held rows tree i ≡ None = λ i l. elim (cases_lt i 1024) [
        | inl m ↦ above rows tree i m ∙ ap (λ (t : Tree G). get_or t i None) f ∙ get_or-replicate 1024 i None None m
        | inr m ↦ below rows tree i m
            ∙ ap (waiting (i - 1024)) (ap (λ (r : Rows G). get_or r (i - 1024) None) e
            ∙ get_or-replicate 1024 (i - 1024) None None (omega arith))
      ] in
      record {
        wide = ap length f ∙ length-replicate {A = Option (Offer G)} 1024 None;
        fair = λ i l m.
            empty i (omega arith)
            ∙ sym (ap₂ (better_of s) (empty (2 * i) (omega arith)) (empty (2 * i + 1) (omega arith)));
      }

  -- a row is written, and the nodes above it one after another
  pub sealed_below : (rows rows' : Rows G) (tree : Tree G) (o : Offer G) (t : ℕ) → length rows ≡ 1024
      → o.cell < 1024 → rows' ≡ seal o t rows → Ranks s rows tree
      → FairBut s ((1024 + o.cell) / 2) (held rows' tree)
  sealed_below rows rows' tree o t wide l e ranks =
      but_up s (held rows tree) (held rows' tree) (1024 + o.cell) (omega arith) _
      (given_row rows rows' tree o.cell _ wide l e) (λ i k m _. ranks.fair i k m)
      (λ k. absurd (omega arith))

  pub rebuilt : (rows : Rows G) (tree tree' : Tree G) (k : ℕ) (x y v : Option (Offer G)) → length tree ≡ 1024
      → 0 < k → k < 1024 → x ≡ held rows tree (2 * k) → y ≡ held rows tree (2 * k + 1) → v ≡ better_of s x y
      → tree' ≡ set tree k v → FairBut s k (held rows tree) → FairBut s (k / 2) (held rows tree')
  rebuilt rows tree tree' k x y v wide low high e f is t fair =
      but_up s (held rows tree) (held rows tree') k low v (given_node rows tree tree' k v wide high t) fair
      (λ _. is ∙ ap₂ (better_of s) e f)

  -- an offer that improves a row takes it
  module _ (o : Offer G) where
    pub improves_is : (x z : Option (Row G)) (b t : Bool) → x ≡ z → b ≡ improved s o x → b ≡ t
        → improved s o z ≡ t
    improves_is x z b t e f k = ap (improved s o) (sym e) ∙ sym f ∙ k

    pub improved_best : (z : Option (Row G)) → improved s o z ≡ true
        → better_of s (waiting o.cell z) (Some o) ≡ Some o
    improved_best None e = refl
    improved_best (Some row) e = go (ltb row.turn 1024) e
      where
        go : (t : Bool)
            → cond t false (earlier (s.rank o.grade row.grade) o (held_offer o.cell row)) ≡ true
            → better_of s (cond t None (Some (held_offer o.cell row))) (Some o) ≡ Some o
        go true e = absurd (false≢true e)
        go false e = rw e
