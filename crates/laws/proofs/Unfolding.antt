-- The steps of a cell unfold into a derivation: each cell concerned is derived by its own holder,
-- from sources that were settled earlier and are concerned as well.
use Rattle.std.proofs.Common.{◌≡◌, ℕ, zero, suc, ◌+◌, ◌<◌, Bool, true, false, cond, List, [], ◌∷◌, ◌++◌, length, get_or, set, replicate, Some, None, Option, sym, refl, ap, ◌∙◌, subst, ap₂, inl, inr, arith}
use Rattle.std.proofs.lemmas.List.{get_or-set_same, get_or-set_other, get_or_past, length-set, length-replicate}
use Rattle.std.proofs.lemmas.Bool.{cases_eq, cases_lt, both_ways}
use Rattle.model.specs.declared.record.Record.{Record}
use Rattle.model.specs.declared.record.Record.TheVariants.{Root, Link, Ephemeron}
use Rattle.model.specs.declared.row.Row.{Row}
use Rattle.model.specs.Schemes.{Scheme}
use Rattle.model.specs.Meaning.{Meaning, cell_at, record_at}
use Rattle.model.specs.Derivations.{by_root, by_link, by_ephemeron}
use Rattle.model.specs.Settling.{Rows, target, given}
use Rattle.model.specs.Grading.{Settled, SettledBefore, SourcesBefore, Numbered, AllBacked}
use Rattle.model.specs.Explaining.{sources, sources_of, holder_of, marked, placed, in_order}
use Rattle.model.specs.Explaining.{cells_by_turn, explain, steps_of}
use Rattle.model.specs.Explaining.{Among, Step, Unfolds}
use Rattle.model.proofs.Filled.{none_some, some_same}
use Rattle.laws.specs.Order.{Timely}

pub length-placed : {G : Type 0} (c : ℕ) (x : Option (Row G)) (order : List ℕ)
    → length (placed c x order) ≡ length order
length-placed c None order = refl
length-placed c (Some row) order = length-set order row.turn c

-- the cell of each turn stands at its place
module _ {G : Type 0} where
  order_other : (c : ℕ) (rows : Rows G) (order : List ℕ) (t : ℕ)
      → ((i : ℕ) (row : Row G) → Settled rows i row → row.turn ≡ t → ⊥)
      → get_or (in_order c rows order) t 0 ≡ get_or order t 0
  unfolding in_order
  order_other c [] order t none = refl
  order_other c (None ∷ rows) order t none =
      order_other (c + 1) rows order t (λ i row e f. none (suc i) row e f)
  order_other c (Some x ∷ rows) order t none =
      order_other (c + 1) rows (set order x.turn c) t (λ i row e f. none (suc i) row e f)
      ∙ get_or-set_other order x.turn t c 0 (λ e. none 0 x refl (sym e))

  order_at : (c : ℕ) (rows : Rows G) (order : List ℕ) (i : ℕ) (row : Row G) → Settled rows i row
      → row.turn < length order
      → ((j : ℕ) (y : Row G) → Settled rows j y → y.turn ≡ row.turn → j ≡ i)
      → get_or (in_order c rows order) row.turn 0 ≡ c + i
  unfolding in_order
  order_at c [] order i row e l alone = absurd (none_some refl e)
  order_at c (x ∷ rows) order zero row e l alone =
      order_other (c + 1) rows (placed c x order) row.turn
      (λ j y f g. let z = alone (suc j) y f g in omega arith)
      ∙ ap (λ (o : Option (Row G)). get_or (placed c o order) row.turn 0) e
      ∙ get_or-set_same order row.turn c 0 l
      ∙ omega arith
  order_at c (x ∷ rows) order (suc i) row e l alone =
      order_at (c + 1) rows (placed c x order) i row e (rw (length-placed c x order) l)
      (λ j y f g. let z = alone (suc j) y f g in omega arith)
      ∙ omega arith

  pub turn_at : (rows : Rows G) (count : ℕ) → Numbered rows count → Timely rows
      → (c : ℕ) (row : Row G) → Settled rows c row → get_or (cells_by_turn rows) row.turn 0 ≡ c
  unfolding cells_by_turn
  turn_at rows count num timely c row e =
      order_at 0 rows (replicate 1024 0) c row e
      (rw (length-replicate {A = ℕ} 1024 0) (timely c row e)) (λ j y f g. num.apart j c y row f e g)
      ∙ omega arith

-- a settled cell has a row
pub settled_below : {G : Type 0} (rows : Rows G) → length rows ≡ 1024 → (a : ℕ) (row : Row G)
    → Settled rows a row → a < 1024
settled_below rows wide a row e = elim (cases_lt a 1024) [
  | inl l ↦ l
  | inr l ↦ absurd (none_some (get_or_past rows a None (omega arith)) e)
]

-- marks stay, and those of the listed cells are raised
set_keeps : (marks : List Bool) (a i : ℕ) → get_or marks i false ≡ true
    → get_or (set marks a true) i false ≡ true
set_keeps [] a i e = e
set_keeps (x ∷ xs) zero zero e = refl
set_keeps (x ∷ xs) zero (suc i) e = e
set_keeps (x ∷ xs) (suc a) zero e = e
set_keeps (x ∷ xs) (suc a) (suc i) e = set_keeps xs a i e

pub marked_keeps : (cs : List ℕ) (marks : List Bool) (i : ℕ) → get_or marks i false ≡ true
    → get_or (marked cs marks) i false ≡ true
marked_keeps [] marks i e = e
marked_keeps (a ∷ cs) marks i e = marked_keeps cs (set marks a true) i (set_keeps marks a i e)

pub marked_on : (cs : List ℕ) (marks : List Bool) (a : ℕ) → Among a cs → a < length marks
    → get_or (marked cs marks) a false ≡ true
marked_on [] marks a m l = absurd m
marked_on (x ∷ cs) marks a (inl e) l =
    marked_keeps cs (set marks x true) a
    (subst (λ (z : ℕ). get_or (set marks z true) a false ≡ true) e (get_or-set_same marks a true false l))
marked_on (x ∷ cs) marks a (inr m) l =
    marked_on cs (set marks x true) a m (rw (length-set marks x true) l)

pub length_marked : (cs : List ℕ) (marks : List Bool) → length (marked cs marks) ≡ length marks
length_marked [] marks = refl
length_marked (a ∷ cs) marks = length_marked cs (set marks a true) ∙ length-set marks a true

pub among_left : (r : ℕ) (xs ys : List ℕ) → Among r xs → Among r (xs ++ ys)
among_left r [] ys m = absurd m
among_left r (x ∷ xs) ys (inl e) = inl e
among_left r (x ∷ xs) ys (inr m) = inr (among_left r xs ys m)

pub among_last : (b c : ℕ) (xs : List ℕ) → b ≡ c → Among b (xs ++ (c ∷ []))
among_last b c [] e = inl e
among_last b c (x ∷ xs) e = inr (among_last b c xs e)

module _ {G : Type 0} (s : Scheme G) (h : Meaning) (rows : Rows G) (steps : List ℕ) where
  -- cell a is settled, and its row comes from a derivation by the steps
  abbrev Known : ℕ → Type 0
  Known a = (x : Row G) × Settled rows a x × Unfolds s h rows steps a x.grade

  abbrev SourcesKnown : Record → Type 0
  SourcesKnown (Root v) = Unit {0}
  SourcesKnown (Link a v k) = Known a
  SourcesKnown (Ephemeron a b v) = Known a × Known b

  -- .. and so does that of the cell that the record holds
  held : (rec : Record) (r n : ℕ) (row : Row G) → record_at h r ≡ Some rec → cell_at h (target rec) ≡ Some n
      → given s rows n r rec ≡ Some row.grade → Step rows steps (target rec) r → SourcesKnown rec
      → Unfolds s h rows steps (target rec) row.grade
  held (Root t) r n row e f v p q = record {
    witness = by_root r t n e f;
    exact = some_same refl v;
    by_steps = p;
  }
  held (Link a t k) r n row e f v p (x, u, d) = record {
    witness = by_link r a t n k e f d.witness;
    exact = ap (λ (i : G). s.along r n i k) d.exact ∙ some_same refl (rw u at v);
    by_steps = (p, d.by_steps);
  }
  held (Ephemeron a b t) r n row e f v p ((x, u, d), (y, w, d')) = record {
    witness = by_ephemeron r a b t n e f d.witness d'.witness;
    exact =
        ap₂ (λ (i j : G). s.join r n i j) d.exact d'.exact
        ∙ some_same refl (rw (u, w) at v);
    by_steps = (p, d.by_steps, d'.by_steps);
  }

  sources_known : (t : ℕ) (rec : Record) → SourcesBefore rows t rec
      → ((a : ℕ) → Among a (sources rec) → SettledBefore rows t a → Known a) → SourcesKnown rec
  sources_known t (Root v) q f = tt
  sources_known t (Link a v k) q f = f a (inl refl) q
  sources_known t (Ephemeron a b v) q f = (f a (inl refl) q.0, f b (inr (inl refl)) q.1)

  module _ (order : List ℕ) (wide : length rows ≡ 1024) (backed : AllBacked s h rows)
      (at : (c : ℕ) (row : Row G) → Settled rows c row → get_or order row.turn 0 ≡ c) where
    abbrev AllSteps : List ℕ → Type 0
    AllSteps xs = (r : ℕ) → Among r xs → Among r steps

    -- every cell that is marked and was settled before turn t is known
    abbrev Before : ℕ → Type 0
    Before t = (marks : List Bool) → length marks ≡ 1024 → AllSteps (explain h rows order t marks)
        → (c : ℕ) (row : Row G) → Settled rows c row → row.turn < t → get_or marks c false ≡ true
        → Unfolds s h rows steps c row.grade

    module _ (t : ℕ) (before : Before t) (marks : List Bool) (full : length marks ≡ 1024) where
      -- the cell of turn t is held by a record whose sources are marked now
      at_turn : (c : ℕ) (row : Row G) → Settled rows c row → row.turn ≡ t → (r : ℕ) → r ≡ row.holder
          → AllSteps (explain h rows order t (marked (sources_of (record_at h r)) marks) ++ (r ∷ []))
          → Unfolds s h rows steps c row.grade
      at_turn c row e l r is all =
          let b = backed c row e in
          let cs = sources b.holding in
          let is-rec : record_at h r ≡ Some b.holding = ap (record_at h) is ∙ b.is_record in
          let all' : AllSteps (explain h rows order t (marked cs marks) ++ (r ∷ [])) =
          subst (λ (o : Option Record). AllSteps (explain h rows order t (marked (sources_of o) marks)
          ++ (r ∷ []))) is-rec all in
          let known = sources_known row.turn b.holding b.earlier (λ a m q. (
            q.0,
            q.1,
            before (marked cs marks) (length_marked cs marks ∙ full)
                (λ k n. all' k (among_left k (explain h rows order t (marked cs marks)) (r ∷ []) n))
                a q.0 q.1 (omega arith)
                (marked_on cs marks a m (omega (arith, settled_below rows wide a q.0 q.1))),
          )) in
          let step : Step rows steps (target b.holding) r = record {
            row = row;
            settled = rw b.reaches e;
            held = sym is;
            listed = all' r (among_last r r (explain h rows order t (marked cs marks)) refl);
          } in
          let gives : given s rows b.size r b.holding ≡ Some row.grade =
          ap (λ (k : ℕ). given s rows b.size k b.holding) is ∙ b.gives in
          subst (λ (k : ℕ). Unfolds s h rows steps k row.grade) b.reaches
          (held b.holding r b.size row is-rec (rw b.reaches b.is_size) gives step known)

      by_turn : (a r : ℕ) → a ≡ get_or order t 0 → r ≡ holder_of (get_or rows a None)
          → (b : Bool) → get_or marks a false ≡ b
          → AllSteps (cond b
          (explain h rows order t (marked (sources_of (record_at h r)) marks) ++ (r ∷ []))
          (explain h rows order t marks))
          → (c : ℕ) (row : Row G) → Settled rows c row → row.turn < suc t → get_or marks c false ≡ true
          → Unfolds s h rows steps c row.grade
      by_turn a r is-a is-r true on all c row e l m = elim (cases_eq row.turn t) [
        | inl p ↦ (
            let same : a ≡ c = is-a ∙ (ap (λ (i : ℕ). get_or order i 0) (sym p) ∙ at c row e) in
            let is : r ≡ row.holder =
            is-r ∙ (ap (λ (i : ℕ). holder_of (get_or rows i None)) same ∙ ap holder_of e) in
            at_turn c row e p r is all)
        | inr p ↦ (
            let cs = sources_of (record_at h r) in
            before (marked cs marks) (length_marked cs marks ∙ full)
            (λ k n. all k (among_left k (explain h rows order t (marked cs marks)) (r ∷ []) n))
            c row e (omega arith) (marked_keeps cs marks c m))
      ]
      by_turn a r is-a is-r false off all c row e l m = elim (cases_eq row.turn t) [
        | inl p ↦ (
            let same : a ≡ c = is-a ∙ (ap (λ (i : ℕ). get_or order i 0) (sym p) ∙ at c row e) in
            absurd (both_ways (get_or marks a false) off (rw same m)))
        | inr p ↦ before marks full all c row e (omega arith) m
      ]

    before_all : (t : ℕ) → Before t
    unfolding explain
    before_all zero marks full all c row e l m = absurd (omega arith)
    before_all (suc t) marks full all c row e l m =
        by_turn t (before_all t) marks full (get_or order t 0) (holder_of (get_or rows (get_or order t 0) None))
        refl refl (get_or marks (get_or order t 0) false) refl all c row e l m

module _ {G : Type 0} (s : Scheme G) (h : Meaning) (rows : Rows G) (count : ℕ)
    (wide : length rows ≡ 1024) (backed : AllBacked s h rows) (num : Numbered rows count)
    (timely : Timely rows) (c : ℕ) (small : c < 1024) where
  pub steps_unfold : (row : Row G) → Settled rows c row
      → Unfolds s h rows (steps_of h rows c row.turn) c row.grade
  unfolding steps_of
  steps_unfold row e =
      before_all s h rows (steps_of h rows c row.turn) (cells_by_turn rows) wide backed
      (turn_at rows count num timely) (row.turn + 1) (set (replicate 1024 false) c true)
      (length-set (replicate 1024 false) c true ∙ length-replicate 1024 false)
      (λ r m. m) c row e (omega arith)
      (get_or-set_same (replicate 1024 false) c true false (rw (length-replicate 1024 false) small))
