-- The walk down the turns finds the steps of exactly the cells concerned.
use Rattle.std.proofs.Common.{◌≡◌, ℕ, zero, suc, ◌+◌, ◌<◌, ◌≤◌, Bool, true, false, cond, ◌⊎◌, List, [], ◌∷◌, ◌++◌, length, get_or, set, replicate, Some, None, Option, sym, refl, ap, ◌∙◌, subst, ap₂, inl, inr, ⊎_elim, arith}
use Rattle.std.proofs.lemmas.List.{get_or-set_same, length-set, length-replicate}
use Rattle.std.proofs.lemmas.Bool.{cases_eq, false≢true}
use Rattle.model.specs.declared.record.Record.{Record}
use Rattle.model.specs.declared.record.Record.TheVariants.{Root, Link, Ephemeron}
use Rattle.model.specs.declared.row.Row.{Row}
use Rattle.model.specs.Schemes.{Scheme}
use Rattle.model.specs.Meaning.{Meaning, record_at}
use Rattle.model.specs.Settling.{Rows}
use Rattle.model.specs.Grading.{Settled, SettledBefore, SourcesBefore, Numbered, AllBacked}
use Rattle.model.specs.Explaining.{sources, sources_of, marked, cells_by_turn, explain, steps_of, Among}
use Rattle.model.proofs.Filled.{some_same}
use Rattle.laws.specs.Concerned.{Concerned, itself, source, HeldInTurn, none, next, Steps}
use Rattle.laws.specs.Order.{Timely}
use Rattle.laws.proofs.Unfolding.{among_left, among_last, turn_at, marked_keeps, marked_on, length_marked, settled_below}

among_either : (b : ℕ) (xs ys : List ℕ) → Among b (xs ++ ys) → Among b xs ⊎ Among b ys
among_either b [] ys m = inr m
among_either b (x ∷ xs) ys (inl e) = inl (inl e)
among_either b (x ∷ xs) ys (inr m) = ⊎_elim (λ p. inl (inr p)) inr (among_either b xs ys m)

-- a mark was there, or was raised
set_from : (marks : List Bool) (a m : ℕ) → get_or (set marks a true) m false ≡ true
    → (get_or marks m false ≡ true) ⊎ (m ≡ a)
set_from [] a m e = inl e
set_from (x ∷ xs) zero zero e = inr refl
set_from (x ∷ xs) zero (suc m) e = inl e
set_from (x ∷ xs) (suc a) zero e = inl e
set_from (x ∷ xs) (suc a) (suc m) e = ⊎_elim inl (λ p. inr (ap suc p)) (set_from xs a m e)

marked_from : (cs : List ℕ) (marks : List Bool) (m : ℕ) → get_or (marked cs marks) m false ≡ true
    → (get_or marks m false ≡ true) ⊎ Among m cs
marked_from [] marks m e = inl e
marked_from (a ∷ cs) marks m e =
    ⊎_elim (λ p. ⊎_elim inl (λ q. inr (inl q)) (set_from marks a m p)) (λ p. inr (inr p))
    (marked_from cs (set marks a true) m e)

sources_some : (x : Option Record) (b : ℕ) → Among b (sources_of x)
    → (rec : Record) × (x ≡ Some rec) × Among b (sources rec)
sources_some None b m = absurd m
sources_some (Some rec) b m = (rec, refl, m)

source_before : {G : Type 0} (rows : Rows G) (t : ℕ) (rec : Record) (b : ℕ) → SourcesBefore rows t rec
    → Among b (sources rec) → SettledBefore rows t b
source_before rows t (Root v) b q m = absurd m
source_before rows t (Link a v k) b q (inl e) = subst (SettledBefore rows t) (sym e) q
source_before rows t (Link a v k) b q (inr m) = absurd m
source_before rows t (Ephemeron a k v) b q (inl e) = subst (SettledBefore rows t) (sym e) q.0
source_before rows t (Ephemeron a k v) b q (inr (inl e)) = subst (SettledBefore rows t) (sym e) q.1
source_before rows t (Ephemeron a k v) b q (inr (inr m)) = absurd m

-- one more cell, settled later than the others
module _ {G : Type 0} (rows : Rows G) (c : ℕ) (row : Row G) (e : Settled rows c row) where
  abbrev Earlier : List ℕ → Type 0
  Earlier cells = (b : ℕ) (y : Row G) → Among b cells → Settled rows b y → y.turn < row.turn

  in_turn_more : (cells path : List ℕ) → HeldInTurn rows cells path → Earlier cells
      → HeldInTurn rows (cells ++ (c ∷ [])) (path ++ (row.holder ∷ []))
  in_turn_more _ _ none early = next c row [] [] e (λ b y m. absurd m) none
  in_turn_more _ _ (next d x cells path f above rest) early =
      next d x (cells ++ (c ∷ [])) (path ++ (row.holder ∷ [])) f
      (λ b y m g. ⊎_elim (λ p. above b y p g) (λ p. at_end b y p g) (among_either b cells (c ∷ []) m))
      (in_turn_more cells path rest (λ b y m. early b y (inr m)))
    where
      at_end : (b : ℕ) (y : Row G) → Among b (c ∷ []) → Settled rows b y → x.turn < y.turn
      at_end b y (inl p) g =
          let same : y ≡ row = some_same (rw p at g) e in
          let l = early d x (inl refl) f in
          rw same l
      at_end b y (inr m) g = absurd m

module _ {G : Type 0} (s : Scheme G) (h : Meaning) (rows : Rows G) (count : ℕ)
    (wide : length rows ≡ 1024) (backed : AllBacked s h rows) (num : Numbered rows count)
    (timely : Timely rows) where
  -- a path is that of the cells that marked cells concern, among those settled before turn t
  record Walk (t : ℕ) (marks : List Bool) (path : List ℕ) : Type 0 where
    cells : List ℕ
    only : (b : ℕ) → Among b cells → (m : ℕ) × (get_or marks m false ≡ true) × Concerned h rows m b
    every : (m : ℕ) (row : Row G) → get_or marks m false ≡ true → Settled rows m row → row.turn < t
        → Among m cells
    closed : (a b : ℕ) (row : Row G) (rec : Record) → Among a cells → Settled rows a row
        → record_at h row.holder ≡ Some rec → Among b (sources rec) → Among b cells
    before : (b : ℕ) (y : Row G) → Among b cells → Settled rows b y → y.turn < t
    in_turn : HeldInTurn rows cells path

  -- what concerns a source concerns the cell that it holds
  concerned_on : (c m b : ℕ) (row : Row G) (rec : Record) → Settled rows c row
      → record_at h row.holder ≡ Some rec → Among m (sources rec) → Concerned h rows m b
      → Concerned h rows c b
  concerned_on c m _ row rec e f i itself = source c m row rec itself e f i
  concerned_on c m _ row rec e f i (source a b x y q u v w) =
      source a b x y (concerned_on c m a row rec e f i q) u v w

  module _ (t : ℕ) (marks : List Bool) (full : length marks ≡ 1024) (c : ℕ) (row : Row G)
      (e : Settled rows c row) (is : row.turn ≡ t) where
    -- another cell of this turn is the same
    alone : (m : ℕ) (x : Row G) → Settled rows m x → x.turn ≡ t → m ≡ c
    alone m x f p = num.apart m c x row f e (p ∙ sym is)

    -- the cell is marked: it comes last, and its sources are concerned too
    module _ (on : get_or marks c false ≡ true) (rec : Record) (f : record_at h row.holder ≡ Some rec)
        (ready : SourcesBefore rows t rec) (path : List ℕ) (w : Walk t (marked (sources rec) marks) path) where
      only_on : (b : ℕ) → Among b (w.cells ++ (c ∷ []))
          → (m : ℕ) × (get_or marks m false ≡ true) × Concerned h rows m b
      only_on b m = ⊎_elim (λ p. inner (w.only b p)) last (among_either b w.cells (c ∷ []) m)
        where
          inner : (a : ℕ) × (get_or (marked (sources rec) marks) a false ≡ true) × Concerned h rows a b
              → (m : ℕ) × (get_or marks m false ≡ true) × Concerned h rows m b
          inner q =
              ⊎_elim (λ p. (q.0, p, q.2)) (λ p. (c, on, concerned_on c q.0 b row rec e f p q.2))
              (marked_from (sources rec) marks q.0 q.1)

          last : Among b (c ∷ []) → (m : ℕ) × (get_or marks m false ≡ true) × Concerned h rows m b
          last (inl p) = (c, on, subst (Concerned h rows c) (sym p) itself)
          last (inr p) = absurd p

      every_on : (m : ℕ) (x : Row G) → get_or marks m false ≡ true → Settled rows m x → x.turn < suc t
          → Among m (w.cells ++ (c ∷ []))
      every_on m x k g l = elim (cases_eq x.turn t) [
        | inl p ↦ among_last m c w.cells (alone m x g p)
        | inr p ↦ among_left m w.cells (c ∷ [])
            (w.every m x (marked_keeps (sources rec) marks m k) g (omega arith))
      ]

      source_in : (b : ℕ) → Among b (sources rec) → Among b (w.cells ++ (c ∷ []))
      source_in b m =
          let q = source_before rows t rec b ready m in
          let small = settled_below rows wide b q.0 q.1 in
          among_left b w.cells (c ∷ [])
          (w.every b q.0 (marked_on (sources rec) marks b m (omega arith)) q.1 q.2)

      closed_on : (a b : ℕ) (x : Row G) (y : Record) → Among a (w.cells ++ (c ∷ [])) → Settled rows a x
          → record_at h x.holder ≡ Some y → Among b (sources y) → Among b (w.cells ++ (c ∷ []))
      closed_on a b x y m g k i =
          ⊎_elim (λ p. among_left b w.cells (c ∷ []) (w.closed a b x y p g k i)) last
          (among_either a w.cells (c ∷ []) m)
        where
          last : Among a (c ∷ []) → Among b (w.cells ++ (c ∷ []))
          last (inl p) =
              let same : x ≡ row = some_same (rw p at g) e in
              let also : y ≡ rec = some_same (rw same at k) f in
              source_in b (rw also at i)
          last (inr p) = absurd p

      before_on : (b : ℕ) (y : Row G) → Among b (w.cells ++ (c ∷ [])) → Settled rows b y → y.turn < suc t
      before_on b y m g =
          ⊎_elim (λ p. let l = w.before b y p g in omega arith) last (among_either b w.cells (c ∷ []) m)
        where
          last : Among b (c ∷ []) → y.turn < suc t
          last (inl p) =
              let same : y ≡ row = some_same (rw p at g) e in
              let u : y.turn ≡ row.turn = ap (λ (z : Row G). z.turn) same in
              omega arith
          last (inr p) = absurd p

      walk_on : Walk (suc t) marks (path ++ (row.holder ∷ []))
      walk_on = record {
        cells = w.cells ++ (c ∷ []);
        only = only_on;
        every = every_on;
        closed = closed_on;
        before = before_on;
        in_turn = in_turn_more rows c row e w.cells path w.in_turn
            (λ b y m g. let l = w.before b y m g in omega arith);
      }

    -- the cell is not marked: it is passed over
    walk_by : get_or marks c false ≡ false → (path : List ℕ) → Walk t marks path → Walk (suc t) marks path
    walk_by off path w = record {
      cells = w.cells;
      only = w.only;
      every = λ m x k g l. elim (cases_eq x.turn t) [
        | inl p ↦ absurd (false≢true (sym off ∙ rw (alone m x g p) at k))
        | inr p ↦ w.every m x k g (omega arith)
      ];
      closed = w.closed;
      before = λ b y m g. let l = w.before b y m g in omega arith;
      in_turn = w.in_turn;
    }

  -- one turn of the walk
  walk_turn : (t : ℕ) → t < count → (marks : List Bool) → length marks ≡ 1024
      → ((ms : List Bool) → length ms ≡ 1024 → Walk t ms (explain h rows (cells_by_turn rows) t ms))
      → Walk (suc t) marks (explain h rows (cells_by_turn rows) (suc t) marks)
  unfolding explain
  walk_turn t l marks full ih =
      let q = num.every t l in
      let c = q.0 in
      let row = q.1 in
      let b = backed c row q.2 in
      let at : get_or (cells_by_turn rows) t 0 ≡ c =
      ap (λ (i : ℕ). get_or (cells_by_turn rows) i 0) (sym q.3) ∙ turn_at rows count num timely c row q.2 in
      let is_row : get_or rows c None ≡ Some row = q.2 in
      let is-rec : record_at h row.holder ≡ Some b.holding = b.is_record in
      let ready = subst (λ (u : ℕ). SourcesBefore rows u b.holding) q.3 b.earlier in
      let cs = sources b.holding in
      rw (at, is_row, is-rec)
      (go c row is_row q.3 b.holding is-rec ready (ih marks full)
      (ih (marked cs marks) (length_marked cs marks ∙ full)) (get_or marks c false) refl)
    where
      go : (c : ℕ) (row : Row G) → Settled rows c row → row.turn ≡ t → (rec : Record)
          → record_at h row.holder ≡ Some rec → SourcesBefore rows t rec
          → Walk t marks (explain h rows (cells_by_turn rows) t marks)
          → Walk t (marked (sources rec) marks) (explain h rows (cells_by_turn rows) t (marked (sources rec) marks))
          → (b : Bool) → get_or marks c false ≡ b
          → Walk (suc t) marks (cond b
          (explain h rows (cells_by_turn rows) t (marked (sources rec) marks) ++ (row.holder ∷ []))
          (explain h rows (cells_by_turn rows) t marks))
      go c row e is rec f ready off on true k = walk_on t marks full c row e is k rec f ready _ on
      go c row e is rec f ready off on false k = walk_by t marks full c row e is k _ off

  walked : (t : ℕ) → t ≤ count → (marks : List Bool) → length marks ≡ 1024
      → Walk t marks (explain h rows (cells_by_turn rows) t marks)
  unfolding explain
  walked zero l marks full = record {
    cells = [];
    only = λ b m. absurd m;
    every = λ m row k e lt. absurd (omega arith);
    closed = λ a b row rec m. absurd m;
    before = λ b y m. absurd m;
    in_turn = none;
  }
  walked (suc t) l marks full = walk_turn t (omega arith) marks full (walked t (omega arith))

  -- so the steps of a cell are those of the cells that it concerns
  only_first : (c m : ℕ) → get_or (set (replicate 1024 false) c true) m false ≡ true → m ≡ c
  only_first c m e =
      ⊎_elim (λ p. absurd (false≢true (sym (unmarked 1024 m) ∙ p))) (λ p. p)
      (set_from (replicate 1024 false) c m e)
    where
      unmarked : (n i : ℕ) → get_or (replicate n false) i false ≡ false
      unmarked zero i = refl
      unmarked (suc n) zero = refl
      unmarked (suc n) (suc i) = unmarked n i

  pub finds_steps : (c : ℕ) (row : Row G) → Settled rows c row → Steps h rows c (steps_of h rows c row.turn)
  unfolding steps_of
  finds_steps c row e =
      let small = settled_below rows wide c row e in
      let l = num.below c row e in
      let marks : List Bool = set (replicate 1024 false) c true in
      let full : length marks ≡ 1024 = length-set (replicate 1024 false) c true ∙ length-replicate 1024 false in
      let on : get_or marks c false ≡ true =
      get_or-set_same (replicate 1024 false) c true false (rw (length-replicate 1024 false) small) in
      let w = walked (row.turn + 1) (omega arith) marks full in
      record {
        cells = w.cells;
        only = λ b m.
            let q = w.only b m in
            subst (λ (z : ℕ). Concerned h rows z b) (only_first c q.0 q.1) q.2;
        every = λ b q. each w (w.every c row on e (omega arith)) b q;
        in_turn = w.in_turn;
      }
    where
      each : {t : ℕ} {marks : List Bool} {path : List ℕ} (w : Walk t marks path) → Among c w.cells
          → (b : ℕ) → Concerned h rows c b → Among b w.cells
      each w m _ itself = m
      each w m _ (source a b x y q f g i) = w.closed a b x y (each w m a q) f g i

-- and a list that has one step for each cell concerned has these steps, since turns put them in one order
module _ {G : Type 0} (rows : Rows G) where
  -- the first cells of two such lists are one
  heads : (c d : ℕ) (x y : Row G) (cs ds : List ℕ) → Settled rows c x → Settled rows d y
      → ((b : ℕ) (z : Row G) → Among b cs → Settled rows b z → x.turn < z.turn)
      → ((b : ℕ) (z : Row G) → Among b ds → Settled rows b z → y.turn < z.turn)
      → Among c (d ∷ ds) → Among d (c ∷ cs) → c ≡ d
  heads c d x y cs ds e f above above' (inl p) m = p
  heads c d x y cs ds e f above above' (inr p) (inl q) = sym q
  heads c d x y cs ds e f above above' (inr p) (inr q) =
      absurd (omega (arith, above d y q f, above' c x p e))

  tails : (c d : ℕ) (x : Row G) (cs ds : List ℕ) → c ≡ d → Settled rows c x
      → ((b : ℕ) (z : Row G) → Among b cs → Settled rows b z → x.turn < z.turn)
      → ((b : ℕ) → Among b (c ∷ cs) → Among b (d ∷ ds)) → (b : ℕ) → Among b cs → Among b ds
  tails c d x cs ds p e above f b m = go (f b (inr m))
    where
      go : Among b (d ∷ ds) → Among b ds
      go (inl q) =
          let z : Settled rows b x = rw (q ∙ sym p) e in
          absurd (omega (arith, above b x m z))
      go (inr q) = q

  in_turn_once : (cs ds p q : List ℕ) → HeldInTurn rows cs p → HeldInTurn rows ds q
      → ((b : ℕ) → Among b cs → Among b ds) → ((b : ℕ) → Among b ds → Among b cs) → p ≡ q
  in_turn_once _ _ _ _ none none f g = refl
  in_turn_once _ _ _ _ none (next d y ds q e above rest) f g = absurd (g d (inl refl))
  in_turn_once _ _ _ _ (next c x cs p e above rest) none f g = absurd (f c (inl refl))
  in_turn_once _ _ _ _ (next c x cs p e above rest) (next d y ds q e' above' rest') f g =
      let same = heads c d x y cs ds e e' above above' (f c (inl refl)) (g d (inl refl)) in
      let row : x ≡ y = some_same (rw same at e) e' in
      let more = in_turn_once cs ds p q rest rest' (tails c d x cs ds same e above f)
      (tails d c y ds cs (sym same) e' above' g) in
      ap₂ (λ (i : ℕ) (j : List ℕ). i ∷ j) (ap (λ (z : Row G). z.holder) row) more

pub steps_once : {G : Type 0} (h : Meaning) (rows : Rows G) (c : ℕ) (p q : List ℕ) → Steps h rows c p
    → Steps h rows c q → p ≡ q
steps_once h rows c p q a b =
    in_turn_once rows a.cells b.cells p q a.in_turn b.in_turn
    (λ i m. b.every i (a.only i m)) (λ i m. a.every i (b.only i m))
