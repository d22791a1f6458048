-- What holds of the rows at each step, and why the best offer is taken: no derivation of an
-- unsettled cell has a better grade (Knuth's argument, for every lawful scheme).
use Rattle.std.proofs.Common.{◌≡◌, ℕ, ◌<◌, cond, length, get_or, is_some, Some, None, Option, sym, refl, ap, ◌∙◌, ap₂}
use Rattle.model.specs.declared.record.Record.{Record}
use Rattle.model.specs.declared.record.Record.TheVariants.{Root, Link, Ephemeron}
use Rattle.model.specs.declared.record.Strength.{Strength}
use Rattle.model.specs.declared.row.Offer.{Offer}
use Rattle.model.specs.declared.row.Row.{Row}
use Rattle.model.specs.Schemes.{Scheme, Lawful, NoWorse, Grade}
use Rattle.model.specs.Meaning.{Meaning, WellFormed, cell_at, record_at}
use Rattle.model.specs.Derivations.{Derivation, by_root, by_link, by_ephemeron, grade_of, Best}
use Rattle.model.specs.Settling.{Rows, State, target, given, with_grade, size_or_none, offered, offer}
use Rattle.model.specs.Settling.{filled, best}
use Rattle.model.specs.Grading.{Settled, SettledBefore, SourcesBefore, Backed, AllBacked}
use Rattle.model.proofs.Formed.{Filled, size_within, record_below, named_filled}
use Rattle.model.proofs.Filled.{none_some, some_same, in_filled}
use Rattle.model.proofs.Choice.{Matches, best_least}

-- cell c is unsettled
abbrev pub Unsettled : {G : Type 0} → Rows G → ℕ → Type 0
Unsettled rows c = get_or rows c None ≡ None

-- the offer that the next step takes: the best that the filled records make
abbrev pub next_offer : {G : Type 0} → Scheme G → Meaning → State G → Option (Offer G)
next_offer s h st = best s h st.rows (filled h.records)

-- what holds at each step: every settled cell is held, since an earlier turn, by the record that
-- gave it its grade, and the grade is that of a best derivation
pub record Sound {G : Type 0} (s : Scheme G) (h : Meaning) (st : State G) : Type 0 where
  pub wide : length st.rows ≡ 1024
  pub past : (c : ℕ) (row : Row G) → Settled st.rows c row → row.turn < st.turn
  pub backed : AllBacked s h st.rows
  pub settled_best : (c : ℕ) (row : Row G) → Settled st.rows c row → Best s h c row.grade

-- what a link or an ephemeron gives comes from the rows of its sources, which are settled
module _ {G : Type 0} (s : Scheme G) (rows : Rows G) where
  with_grade_parts : (x : Option (Row G)) (f : G → Option G) (g : G) → with_grade x f ≡ Some g
      → (row : Row G) × (x ≡ Some row) × (f row.grade ≡ Some g)
  with_grade_parts None f g e = absurd (none_some refl e)
  with_grade_parts (Some row) f g e = (row, refl, e)

  link_parts : (n r a t : ℕ) (k : Strength) (g : G) → given s rows n r (Link a t k) ≡ Some g
      → (row : Row G) × Settled rows a row × (s.along r n row.grade k ≡ g)
  link_parts n r a t k g e =
      let p = with_grade_parts (get_or rows a None) (λ q. Some (s.along r n q k)) g e in
      (p.0, p.1, some_same refl p.2)

  ephemeron_parts : (n r a b v : ℕ) (g : G) → given s rows n r (Ephemeron a b v) ≡ Some g
      → (x : Row G) × (y : Row G) × Settled rows a x × Settled rows b y
      × (s.join r n x.grade y.grade ≡ g)
  ephemeron_parts n r a b v g e =
      let both = λ (i : G). with_grade (get_or rows b None) (λ j. Some (s.join r n i j)) in
      let p = with_grade_parts (get_or rows a None) both g e in
      let q = with_grade_parts (get_or rows b None) (λ j. Some (s.join r n p.0.grade j)) g p.2 in
      (p.0, q.0, p.1, q.1, some_same refl q.2)

-- a settled row stays as it is
abbrev pub Extends : {G : Type 0} → Rows G → Rows G → Type 0
Extends {G} rows rows' = (a : ℕ) (row : Row G) → Settled rows a row → Settled rows' a row

-- where settled rows stay, a record gives what it gave, and a row is held as it was
module _ {G : Type 0} (s : Scheme G) (h : Meaning) (rows rows' : Rows G) (x : Extends rows rows') where
  settled_extends : (t a : ℕ) → SettledBefore rows t a → SettledBefore rows' t a
  settled_extends t a b = (b.0, x a b.0 b.1, b.2)

  before_extends : (t : ℕ) (rec : Record) → SourcesBefore rows t rec → SourcesBefore rows' t rec
  before_extends t (Root v) b = tt
  before_extends t (Link a v k) b = settled_extends t a b
  before_extends t (Ephemeron a b v) q = (settled_extends t a q.0, settled_extends t b q.1)

  given_extends : (n r : ℕ) (rec : Record) (g : G) → given s rows n r rec ≡ Some g
      → given s rows' n r rec ≡ Some g
  given_extends n r (Root v) g e = e
  given_extends n r (Link a v k) g e =
      let p = link_parts s rows n r a v k g e in
      rw (x a p.0 p.1, p.2)
  given_extends n r (Ephemeron a b v) g e =
      let p = ephemeron_parts s rows n r a b v g e in
      rw (x a p.0 p.2, x b p.1 p.3, p.4)

  pub backed_extends : (c : ℕ) (row : Row G) → Backed s h rows c row → Backed s h rows' c row
  backed_extends c row b = record {
    holding = b.holding;
    size = b.size;
    is_record = b.is_record;
    reaches = b.reaches;
    is_size = b.is_size;
    gives = given_extends b.size row.holder b.holding row.grade b.gives;
    earlier = before_extends row.turn b.holding b.earlier;
  }

-- an offer is what a record gives to an unsettled cell
module _ {G : Type 0} (s : Scheme G) (h : Meaning) (rows : Rows G) (r : ℕ) (rec : Record) where
  pub offer_here : (n : ℕ) (g : G) → Unsettled rows (target rec) → cell_at h (target rec) ≡ Some n
      → given s rows n r rec ≡ Some g
      → offer s h rows r rec ≡ Some (record { grade = g; cell = target rec; number = r })
  offer_here n g u f e = rw (u, f, e)

  pub offer_parts : (o : Offer G) → offer s h rows r rec ≡ Some o
      → Unsettled rows (target rec) × (o.cell ≡ target rec) × (o.number ≡ r)
      × (given s rows (size_or_none (cell_at h (target rec))) r rec ≡ Some o.grade)
  offer_parts o e =
      go (get_or rows (target rec) None) (given s rows (size_or_none (cell_at h (target rec))) r rec) e
    where
      go : (x : Option (Row G)) (y : Option G)
          → cond (is_some x) None (offered (target rec) r y) ≡ Some o
          → (x ≡ None) × (o.cell ≡ target rec) × (o.number ≡ r) × (y ≡ Some o.grade)
      go (Some row) y e = absurd (none_some refl e)
      go None None e = absurd (none_some refl e)
      go None (Some g) e =
          let q = some_same e refl in (
            refl,
            ap (λ (z : Offer G). z.cell) q,
            ap (λ (z : Offer G). z.number) q,
            ap (λ (z : Offer G). Some z.grade) (sym q),
          )

module _ {G : Type 0} (s : Scheme G) (law : Lawful s) (h : Meaning) (wf : WellFormed h) where
  -- a filled record reaches a filled cell
  pub target_filled : (r : ℕ) (rec : Record) → record_at h r ≡ Some rec → Filled h (target rec)
  target_filled r (Root t) e = named_filled h wf r (Root t) e
  target_filled r (Link a t k) e = (named_filled h wf r (Link a t k) e).1
  target_filled r (Ephemeron a b v) e = (named_filled h wf r (Ephemeron a b v) e).2

  -- the grade of a derivation is a grade
  pub kind_of : {c : ℕ} (d : Derivation h c) → Grade s (grade_of s d)
  kind_of (by_root r t n e f) =
      law.start_gives_grade r n (record_below h wf r (Root t) e) (size_within h wf t n f).1
  kind_of (by_link r a t n k e f d) =
      law.along_gives_grade r n (grade_of s d) k
      (record_below h wf r (Link a t k) e) (size_within h wf t n f).1 (kind_of d)
  kind_of (by_ephemeron r a b v n e f d₁ d₂) =
      law.join_gives_grade r n (grade_of s d₁) (grade_of s d₂)
      (record_below h wf r (Ephemeron a b v) e) (size_within h wf v n f).1 (kind_of d₁) (kind_of d₂)

  -- join with both grades replaced by ones no worse
  join_keeps_order : (r n : ℕ) (a b c d : G) → Grade s a → Grade s b → Grade s c → Grade s d
      → NoWorse s a c → NoWorse s b d → NoWorse s (s.join r n a b) (s.join r n c d)
  join_keeps_order r n a b c d p q x y u v =
      law.no_worse_carries _ (s.join r n c b) _
      (law.join_keeps_order_of_tables r n a c b p x q u)
      (law.join_keeps_order_of_keys r n c b d x q y v)

  module _ (st : State G) (sound : Sound s h st) where
    -- the next offer's grade is no worse than g
    abbrev Beaten : G → Type 0
    Beaten g = Matches s (next_offer s h st) g

    beaten_by : (g k : G) → Beaten g → NoWorse s g k → Beaten k
    beaten_by g k b w = (b.0, b.1, law.no_worse_carries b.0.grade g k b.2 w)

    -- .. nor than what a filled record gives to an unsettled cell
    from_given : (r n : ℕ) (rec : Record) (g : G) → record_at h r ≡ Some rec
        → cell_at h (target rec) ≡ Some n → Unsettled st.rows (target rec)
        → given s st.rows n r rec ≡ Some g → Beaten g
    from_given r n rec g e f u v =
        best_least s law h st.rows (filled h.records) (r, rec)
        (record { grade = g; cell = target rec; number = r })
        (in_filled h.records r rec e)
        (offer_here s h st.rows r rec n g u f v)

    row_kind : (c : ℕ) (row : Row G) → Settled st.rows c row → Grade s row.grade
    row_kind c row e = let b = sound.settled_best c row e in rw b.exact at (kind_of b.witness)

    -- a derivation by a link: its source is unsettled and beaten itself, or it is settled with a
    -- grade no worse than the derivation's
    by_link_beaten : (r a t n : ℕ) (k : Strength) (e : record_at h r ≡ Some (Link a t k))
        (f : cell_at h t ≡ Some n) (d : Derivation h a) → Unsettled st.rows t
        → (Unsettled st.rows a → Beaten (grade_of s d))
        → (x : Option (Row G)) → get_or st.rows a None ≡ x
        → Beaten (s.along r n (grade_of s d) k)
    by_link_beaten r a t n k e f d u ih None w =
        beaten_by (grade_of s d) _ (ih w) (law.along_never_better r n (grade_of s d) k (kind_of d))
    by_link_beaten r a t n k e f d u ih (Some row) w =
        beaten_by (s.along r n row.grade k) _
        (from_given r n (Link a t k) (s.along r n row.grade k) e f u (rw w))
        (law.along_keeps_order r n row.grade (grade_of s d) k
        (row_kind a row w) (kind_of d) ((sound.settled_best a row w).no_worse d))

    -- .. and by an ephemeron: so it is with its table and with its key
    by_ephemeron_beaten : (r a b v n : ℕ) (e : record_at h r ≡ Some (Ephemeron a b v))
        (f : cell_at h v ≡ Some n) (d₁ : Derivation h a) (d₂ : Derivation h b)
        → Unsettled st.rows v
        → (Unsettled st.rows a → Beaten (grade_of s d₁))
        → (Unsettled st.rows b → Beaten (grade_of s d₂))
        → (x y : Option (Row G)) → get_or st.rows a None ≡ x → get_or st.rows b None ≡ y
        → Beaten (s.join r n (grade_of s d₁) (grade_of s d₂))
    by_ephemeron_beaten r a b v n e f d₁ d₂ u i₁ i₂ None y w z =
        beaten_by (grade_of s d₁) _ (i₁ w)
        (law.join_never_better_than_table r n (grade_of s d₁) (grade_of s d₂) (kind_of d₁) (kind_of d₂))
    by_ephemeron_beaten r a b v n e f d₁ d₂ u i₁ i₂ (Some p) None w z =
        beaten_by (grade_of s d₂) _ (i₂ z)
        (law.join_never_better_than_key r n (grade_of s d₁) (grade_of s d₂) (kind_of d₁) (kind_of d₂))
    by_ephemeron_beaten r a b v n e f d₁ d₂ u i₁ i₂ (Some p) (Some q) w z =
        beaten_by (s.join r n p.grade q.grade) _
        (from_given r n (Ephemeron a b v) (s.join r n p.grade q.grade) e f u (rw (w, z)))
        (join_keeps_order r n p.grade q.grade (grade_of s d₁) (grade_of s d₂)
        (row_kind a p w) (row_kind b q z) (kind_of d₁) (kind_of d₂)
        ((sound.settled_best a p w).no_worse d₁) ((sound.settled_best b q z).no_worse d₂))

    -- so the next offer's grade is no worse than that of any derivation of an unsettled cell
    pub unsettled_beaten : {c : ℕ} (d : Derivation h c) → Unsettled st.rows c → Beaten (grade_of s d)
    unsettled_beaten (by_root r t n e f) u = from_given r n (Root t) (s.start r n) e f u refl
    unsettled_beaten (by_link r a t n k e f d) u =
        by_link_beaten r a t n k e f d u (unsettled_beaten d) (get_or st.rows a None) refl
    unsettled_beaten (by_ephemeron r a b v n e f d₁ d₂) u =
        by_ephemeron_beaten r a b v n e f d₁ d₂ u (unsettled_beaten d₁) (unsettled_beaten d₂)
        (get_or st.rows a None) (get_or st.rows b None) refl refl

    -- what a ready record gives is the grade of a derivation, from sources that are settled
    settled_past : (a : ℕ) (row : Row G) → Settled st.rows a row → SettledBefore st.rows st.turn a
    settled_past a row e = (row, e, sound.past a row e)

    pub derived : (r n : ℕ) (rec : Record) (g : G) → record_at h r ≡ Some rec
        → cell_at h (target rec) ≡ Some n → given s st.rows n r rec ≡ Some g
        → (d : Derivation h (target rec)) × (grade_of s d ≡ g) × SourcesBefore st.rows st.turn rec
    derived r n (Root t) g e f v = (by_root r t n e f, some_same refl v, tt)
    derived r n (Link a t k) g e f v =
        let p = link_parts s st.rows n r a t k g v in
        let x = sound.settled_best a p.0 p.1 in (
          by_link r a t n k e f x.witness,
          ap (λ (i : G). s.along r n i k) x.exact ∙ p.2,
          settled_past a p.0 p.1,
        )
    derived r n (Ephemeron a b v) g e f w =
        let p = ephemeron_parts s st.rows n r a b v g w in
        let x = sound.settled_best a p.0 p.2 in
        let y = sound.settled_best b p.1 p.3 in (
          by_ephemeron r a b v n e f x.witness y.witness,
          ap₂ (λ (i j : G). s.join r n i j) x.exact y.exact ∙ p.4,
          (settled_past a p.0 p.2, settled_past b p.1 p.3),
        )
