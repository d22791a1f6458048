-- What the reference model finds of a call is what the heap refuses, and it can move in one way only.
use Rattle.std.proofs.Common.{◌≡◌, ℕ, ◌<◌, Bool, true, false, leb, List, length, get_or, Some, None, Option, sym, refl, ◌∙◌, subst, inl, inr, leb-true}
use Rattle.std.specs.Result.{result_err}
use Rattle.std.proofs.lemmas.List.{ext_get_or, get_or-set_same, get_or-set_other}
use Rattle.std.proofs.lemmas.Bool.{cases_eq, both_ways, le-leb, lt-leb, leb-false}
use Rattle.model.specs.declared.fault.Fault.{Fault}
use Rattle.model.specs.declared.fault.Cause.TheVariants.{StepsShort, NotSettled}
use Rattle.model.specs.declared.record.Record.{Record}
use Rattle.model.specs.declared.row.Row.{Row}
use Rattle.model.specs.declared.row.Why.{Why}
use Rattle.model.specs.Faults.{fault, unless, answer, left}
use Rattle.model.specs.Meaning.{Meaning, heap_of, WellFormed, cell_at, record_at}
use Rattle.model.specs.Schemes.{Scheme, Lawful}
use Rattle.model.specs.Settling.{Rows, graded}
use Rattle.model.specs.Calls.{with_cell, with_record, empty_fault, free_fault}
use Rattle.model.specs.Calls.{put_fault, root_fault, link_fault, tie_fault, erase_fault}
use Rattle.model.specs.Grading.{Settled, rows_fault}
use Rattle.model.specs.Explaining.{steps_of, room_fault, why_fault, why_answer}
use Rattle.model.specs.Sweeping.{sweep_fault, kept, Cleared, KeepsExactly, names_kept}
use Rattle.model.proofs.Filled.{none_some, some_same}
use Rattle.model.proofs.Graded.{settled_best, unsettled_underived}
use Rattle.laws.specs.Concerned.{Steps}
use Rattle.laws.specs.Order.{Explains}
use Rattle.laws.specs.Reference.{Call, put, root, link, tie, erase, grade, why, sweep, told, Judges, JudgesWhy}
use Rattle.laws.specs.Reference.{at_once, underived, crowded, explained}
use Rattle.laws.specs.Reference.{Same, CellBecomes, RecordBecomes, Moves, Sized, Takes, Length}
use Rattle.laws.specs.Runs.{refusal, after_call}
use Rattle.model.proofs.Faults.{first_none}
use Rattle.laws.proofs.Formed.{empty_number, free_number, held_number, after_formed}
use Rattle.laws.proofs.Stepping.{steps_once}
use Rattle.laws.proofs.Telling.{graded_steps}
use Rattle.laws.proofs.Ordering.{graded_in_order, only_graded}
use Rattle.laws.proofs.Swept.{held_kept, unheld_gone, cleared_gone, gone_cleared, keeps_exactly}

pub err_of : {A : Type 0} (f : Option Fault) (a : A) → result_err (answer f a) ≡ f
err_of None a = refl
err_of (Some f) a = refl

-- the steps that the model speaks of are those that `why` finds
module _ {G : Type 0} (s : Scheme G) (law : Lawful s) (h : Meaning) (wf : WellFormed h) where
  explains_graded : (c : ℕ) (path : List ℕ) → Explains s h c path
      → (row : Row G) × Settled (graded s h).rows c row × (path ≡ steps_of h (graded s h).rows c row.turn)
  explains_graded c path x =
      let e = only_graded s law h wf x.rows x.count x.in_order in
      let is = subst (λ (z : Rows G). Settled z c x.row) e x.settled in
      let steps = subst (λ (z : Rows G). Steps h z c path) e x.steps in (
        x.row,
        is,
        steps_once h (graded s h).rows c path _ steps (graded_steps s law h wf c x.row is),
      )

  graded_explains : (c : ℕ) (row : Row G) → Settled (graded s h).rows c row
      → Explains s h c (steps_of h (graded s h).rows c row.turn)
  graded_explains c row e = record {
    rows = (graded s h).rows;
    count = (graded s h).turn;
    in_order = graded_in_order s law h wf;
    row = row;
    settled = e;
    steps = graded_steps s law h wf c row e;
  }

  -- so the model judges a why as the heap does
  module _ (c : ℕ) (rows : Rows G) (steps : List ℕ) where
    abbrev Judged : Option Fault → Type 0
    Judged f = JudgesWhy s h c (length rows) (length steps) f

    why_judged : Judged (result_err (why_answer s h c rows steps))
    why_judged = go (why_fault c rows) refl
      where
        by_room : why_fault c rows ≡ None → (row : Row G) → Settled (graded s h).rows c row
            → (b : Bool)
            → leb (length (steps_of h (graded s h).rows c row.turn)) (length steps) ≡ b
            → Judged (unless b (fault StepsShort 0))
        by_room e row f true l =
            explained _ e (graded_explains c row f) (leb-true _ (length steps) l)
        by_room e row f false l =
            crowded _ e (graded_explains c row f) (leb-false _ (length steps) l)

        by_row : why_fault c rows ≡ None → (x : Option (Row G)) → get_or (graded s h).rows c None ≡ x
            → Judged (result_err (why_answer s h c rows steps))
        by_row e None f = rw (e, f) (underived e (unsettled_underived s law h wf c f))
        by_row e (Some row) f =
            let path = steps_of h (graded s h).rows c row.turn in
            let told : Why G = record { grade = row.grade; count = length path } in
            rw (e, f, err_of (room_fault path steps) told)
            (by_room e row f (leb (length path) (length steps)) refl)

        go : (x : Option Fault) → why_fault c rows ≡ x → Judged (result_err (why_answer s h c rows steps))
        go (Some f) e = rw e (at_once f e)
        go None e = by_row e (get_or (graded s h).rows c None) refl

    why_exact : (f : Option Fault) → Judged f → result_err (why_answer s h c rows steps) ≡ f
    why_exact _ (at_once f e) = rw e
    why_exact _ (underived e u) = go (get_or (graded s h).rows c None) refl
      where
        go : (x : Option (Row G)) → get_or (graded s h).rows c None ≡ x
            → result_err (why_answer s h c rows steps) ≡ Some (fault NotSettled 2)
        go None f = rw (e, f)
        go (Some row) f = absurd (u (settled_best s law h wf c row f).witness)
    why_exact _ (crowded path e x l) =
        let g = explains_graded c path x in
        let is = g.1 in
        let found = steps_of h (graded s h).rows c g.0.turn in
        let w : Why G = record { grade = g.0.grade; count = length found } in
        let short : leb (length found) (length steps) ≡ false =
        lt-leb (length found) (length steps) (rw g.2 at l) in
        rw (e, is, err_of (room_fault found steps) w, short)
    why_exact _ (explained path e x l) =
        let g = explains_graded c path x in
        let is = g.1 in
        let found = steps_of h (graded s h).rows c g.0.turn in
        let w : Why G = record { grade = g.0.grade; count = length found } in
        let fits : leb (length found) (length steps) ≡ true =
        le-leb (length found) (length steps) (rw g.2 at l) in
        rw (e, is, err_of (room_fault found steps) w, fits)

pub same_self : (h : Meaning) → Same h h
same_self h = record { cells = λ n. refl; records = λ r. refl }

module _ (h : Meaning) (wf : WellFormed h) where
  -- the model judges every call as the heap does
  pub judged : (call : Call List) → Judges h (told call) (refusal h call)
  judged (put c n) = err_of (put_fault h c n) (tt {0})
  judged (root r t) = err_of (root_fault h r t) (tt {0})
  judged (link r a t k) = err_of (link_fault h r a t k) (tt {0})
  judged (tie r a b v) = err_of (tie_fault h r a b v) (tt {0})
  judged (erase r) = err_of (erase_fault h r) (tt {0})
  judged (grade k s law rows) = err_of (rows_fault rows) _
  judged (why k s law c rows steps) = why_judged s law h wf c rows steps
  judged (sweep k s law limit rows cells records) = err_of (sweep_fault rows cells records) _

  pub exact : (call : Call List) (f : Option Fault) → Judges h (told call) f → refusal h call ≡ f
  exact (put c n) f j = err_of (put_fault h c n) (tt {0}) ∙ sym j
  exact (root r t) f j = err_of (root_fault h r t) (tt {0}) ∙ sym j
  exact (link r a t k) f j = err_of (link_fault h r a t k) (tt {0}) ∙ sym j
  exact (tie r a b v) f j = err_of (tie_fault h r a b v) (tt {0}) ∙ sym j
  exact (erase r) f j = err_of (erase_fault h r) (tt {0}) ∙ sym j
  exact (grade k s law rows) f j = err_of (rows_fault rows) _ ∙ sym j
  exact (why k s law c rows steps) f j = why_exact s law h wf c rows steps f j
  exact (sweep k s law limit rows cells records) f j = err_of (sweep_fault rows cells records) _ ∙ sym j

  -- a write changes one place
  cell_written : (c : ℕ) (x : Option ℕ) → c < 1024 → CellBecomes c x h (with_cell h c x)
  cell_written c x l = record {
    here = get_or-set_same h.cells c x None (rw wf.cell_count l);
    elsewhere = λ n p. get_or-set_other h.cells c n x None p;
    records = λ r. refl;
  }

  record_written : (r : ℕ) (x : Option Record) → r < 4096 → RecordBecomes r x h (with_record h r x)
  record_written r x l = record {
    here = get_or-set_same h.records r x None (rw wf.record_count l);
    elsewhere = λ n p. get_or-set_other h.records r n x None p;
    cells = λ c. refl;
  }

  -- so the heap moves as the model does
  module _ (call : Call Length) where
    by_fault : (f : Option Fault) (new : Meaning) → (f ≡ None → Moves call None h new)
        → Moves call f h (left f new h)
    by_fault None new m = m refl
    by_fault (Some f) new m = same_self h

    edit_moves : (f : Option Fault) (new : Meaning) → (f ≡ None → Moves call None h new)
        → Moves call (result_err (answer f (tt {0}))) h (left f new h)
    edit_moves f new m = rw (err_of f (tt {0})) (by_fault f new m)

  unmoved : (call : Call Length) → Moves call None h h → (f : Option Fault) → Moves call f h h
  unmoved call m None = m
  unmoved call m (Some f) = same_self h

  pub moved : (call : Call List) → Moves (told call) (refusal h call) h (after_call h call)
  moved (put c n) =
      edit_moves (put c n) (put_fault h c n) (with_cell h c (Some n)) (λ e.
      cell_written c (Some n) (empty_number h c 1 (first_none (empty_fault h c 1) _ e).0))
  moved (root r t) =
      edit_moves (root r t) (root_fault h r t) _ (λ e.
      record_written r _ (free_number h r 1 (first_none (free_fault h r 1) _ e).0))
  moved (link r a t k) =
      edit_moves (link r a t k) (link_fault h r a t k) _ (λ e.
      record_written r _ (free_number h r 1 (first_none (free_fault h r 1) _ e).0))
  moved (tie r a b v) =
      edit_moves (tie r a b v) (tie_fault h r a b v) _ (λ e.
      record_written r _ (free_number h r 1 (first_none (free_fault h r 1) _ e).0))
  moved (erase r) = edit_moves (erase r) (erase_fault h r) _ (λ e. record_written r None (held_number h r 1 e))
  moved (grade k s law rows) = unmoved (told (grade k s law rows)) (same_self h) (refusal h (grade k s law rows))
  moved (why k s law c rows steps) =
      unmoved (told (why k s law c rows steps)) (same_self h) (refusal h (why k s law c rows steps))
  moved (sweep k s law limit rows cells records) =
      rw (err_of (sweep_fault rows cells records) _)
      (by_fault (told (sweep k s law limit rows cells records)) (sweep_fault rows cells records) _
      (λ e. keeps_exactly s law h wf limit))

  -- and the model moves in one way only
  after_same : (a b : Meaning) → Same h a → Same h b → Same a b
  after_same a b p q = record {
    cells = λ n. sym (p.cells n) ∙ q.cells n;
    records = λ r. sym (p.records r) ∙ q.records r;
  }

  cell_once : (c : ℕ) (x : Option ℕ) (a b : Meaning) → CellBecomes c x h a → CellBecomes c x h b → Same a b
  cell_once c x a b p q = record {
    cells = λ n. elim (cases_eq n c) [
      | inl e ↦ rw e (p.here ∙ sym q.here)
      | inr e ↦ p.elsewhere n e ∙ sym (q.elsewhere n e)
    ];
    records = λ r. p.records r ∙ sym (q.records r);
  }

  record_once : (r : ℕ) (x : Option Record) (a b : Meaning) → RecordBecomes r x h a → RecordBecomes r x h b
      → Same a b
  record_once r x a b p q = record {
    cells = λ c. p.cells c ∙ sym (q.cells c);
    records = λ n. elim (cases_eq n r) [
      | inl e ↦ rw e (p.here ∙ sym q.here)
      | inr e ↦ p.elsewhere n e ∙ sym (q.elsewhere n e)
    ];
  }

  module _ {G : Type 0} (s : Scheme G) (law : Lawful s) (limit : G) (a b : Meaning)
      (p : KeepsExactly s limit h a) (q : KeepsExactly s limit h b) where
    cells_once : (c : ℕ) (k : Bool) → kept s limit h c ≡ k → cell_at a c ≡ cell_at b c
    cells_once c true e =
        let d = held_kept s law h wf limit c e in
        p.held_stay c d ∙ sym (q.held_stay c d)
    cells_once c false e =
        let u = unheld_gone s law h wf limit c e in
        p.others_go c u ∙ sym (q.others_go c u)

    stays_or_goes : (r : ℕ) (rec : Record) → record_at h r ≡ Some rec → (k : Bool)
        → names_kept (kept s limit h) rec ≡ k → record_at a r ≡ record_at b r
    stays_or_goes r rec e true k =
        let u : Cleared s limit h r → ⊥ = λ z.
        let same : z.content ≡ rec = some_same z.filled e in
        both_ways (names_kept (kept s limit h) rec)
        (rw same at (cleared_gone s law h wf limit r z)) k in
        p.others_stay r u ∙ sym (q.others_stay r u)
    stays_or_goes r rec e false k =
        let z = gone_cleared s law h wf limit r rec e k in
        p.named_go r z ∙ sym (q.named_go r z)

    records_once : (r : ℕ) (x : Option Record) → record_at h r ≡ x → record_at a r ≡ record_at b r
    records_once r None e =
        let u : Cleared s limit h r → ⊥ = λ z. none_some e z.filled in
        p.others_stay r u ∙ sym (q.others_stay r u)
    records_once r (Some rec) e = stays_or_goes r rec e (names_kept (kept s limit h) rec) refl

    sweep_once : Same a b
    sweep_once = record {
      cells = λ c. cells_once c (kept s limit h c) refl;
      records = λ r. records_once r (record_at h r) refl;
    }

  moves_once : (call : Call List) (f : Option Fault) (a b : Meaning)
      → Moves (told call) f h a → Moves (told call) f h b → Same a b
  moves_once call (Some f) a b p q = after_same a b p q
  moves_once (put c n) None a b p q = cell_once c (Some n) a b p q
  moves_once (root r t) None a b p q = record_once r _ a b p q
  moves_once (link r v t k) None a b p q = record_once r _ a b p q
  moves_once (tie r t k v) None a b p q = record_once r _ a b p q
  moves_once (erase r) None a b p q = record_once r None a b p q
  moves_once (grade k s law rows) None a b p q = after_same a b p q
  moves_once (why k s law c rows steps) None a b p q = after_same a b p q
  moves_once (sweep k s law limit rows cells records) None a b p q = sweep_once s law limit a b p q

-- what answers alike and has as many places is the same
same_meaning : (a b : Meaning) → Sized a → Sized b → Same a b → a ≡ b
same_meaning a b p q e =
    let cs : a.cells ≡ b.cells =
    ext_get_or None a.cells b.cells (p.cell_count ∙ sym q.cell_count) (λ i l. e.cells i) in
    let rs : a.records ≡ b.records =
    ext_get_or None a.records b.records (p.record_count ∙ sym q.record_count) (λ i l. e.records i) in
    λ i. heap_of (cs i) (rs i)

pub formed_sized : (h : Meaning) → WellFormed h → Sized h
formed_sized h wf = record { cell_count = wf.cell_count; record_count = wf.record_count }

module _ (h : Meaning) (wf : WellFormed h) (call : Call List) where
  pub can_take : Takes (told call) (refusal h call) h (after_call h call)
  can_take = record {
    judges = judged h wf call;
    moves = moved h wf call;
    sized = formed_sized (after_call h call) (after_formed h wf call);
  }

  pub takes_so : (f : Option Fault) (next : Meaning) → Takes (told call) f h next
      → (refusal h call ≡ f) × (after_call h call ≡ next)
  takes_so f next t =
      let e = exact h wf call f t.judges in
      let here = rw e at (moved h wf call) in (
        e,
        same_meaning (after_call h call) next can_take.sized t.sized
            (moves_once h wf call f (after_call h call) next here t.moves),
      )
