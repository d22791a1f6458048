-- Each call leaves a well-formed heap well-formed.
use Rattle.std.proofs.Common.{◌≡◌, ℕ, ◌<◌, Bool, true, false, ◌&&◌, ltb, leb, List, is_some, Some, None, Option, refl, ltb-true}
use Rattle.std.proofs.lemmas.Bool.{and_from}
use Rattle.model.specs.declared.fault.Fault.{Fault}
use Rattle.model.specs.declared.fault.Cause.TheVariants.{CellNumber, CellEmpty, RecordNumber}
use Rattle.model.specs.declared.record.Record.{Record}
use Rattle.model.specs.declared.record.Record.TheVariants.{Root, Link, Ephemeron}
use Rattle.model.specs.Faults.{fault, unless, left}
use Rattle.model.specs.Meaning.{Meaning, WellFormed, cell_at, filled_in, names_filled}
use Rattle.model.specs.Strengths.{strength_of}
use Rattle.model.specs.Calls.{empty_heap, with_cell, with_record, cell_fault, filled_fault, empty_fault, size_fault}
use Rattle.model.specs.Calls.{record_fault, free_fault, held_fault}
use Rattle.model.specs.Calls.{put_fault, root_fault, link_fault, tie_fault, erase_fault}
use Rattle.model.specs.Sweeping.{sweep_fault, kept}
use Rattle.model.proofs.Filled.{none_some}
use Rattle.model.proofs.Faults.{first_none}
use Rattle.model.proofs.Kept.{length-kept, sizes_kept, names_kept, names_with, length-new, sizes_new, names_new}
use Rattle.laws.specs.Reference.{Call, put, root, link, tie, erase, grade, why, sweep}
use Rattle.laws.specs.Runs.{after_call}
use Rattle.laws.proofs.Emptied.{emptied_formed}

pub unless_none : (b : Bool) (f : Fault) → unless b f ≡ None → b ≡ true
unless_none true f e = refl
unless_none false f e = absurd (none_some e refl)

pub cell_number : (n place : ℕ) → cell_fault n place ≡ None → n < 1024
cell_number n place e = ltb-true n 1024 (unless_none (ltb n 1024) (fault CellNumber place) e)

pub record_number : (r place : ℕ) → record_fault r place ≡ None → r < 4096
record_number r place e = ltb-true r 4096 (unless_none (ltb r 4096) (fault RecordNumber place) e)

module _ (h : Meaning) where
  cell_filled : (n place : ℕ) → filled_fault h n place ≡ None → filled_in h.cells n ≡ true
  cell_filled n place e =
      unless_none (is_some (cell_at h n)) (fault CellEmpty place) (first_none (cell_fault n place) _ e).1

  pub free_number : (r place : ℕ) → free_fault h r place ≡ None → r < 4096
  free_number r place e = record_number r place (first_none (record_fault r place) _ e).0

  pub held_number : (r place : ℕ) → held_fault h r place ≡ None → r < 4096
  held_number r place e = record_number r place (first_none (record_fault r place) _ e).0

  pub empty_number : (n place : ℕ) → empty_fault h n place ≡ None → n < 1024
  empty_number n place e = cell_number n place (first_none (cell_fault n place) _ e).0

  module _ (wf : WellFormed h) where
    pub cell_formed : (c n : ℕ) → size_fault n 2 ≡ None → WellFormed (with_cell h c (Some n))
    cell_formed c n e = record {
      cell_count = length-kept h.cells _ c 1024 (Some n) refl wf.cell_count;
      record_count = wf.record_count;
      sizes_fit = sizes_kept h.cells _ c n refl (unless_none (leb 1 n && leb n 1048576) _ e) wf.sizes_fit;
      names_filled_cells = names_kept h.cells _ h.records c n refl wf.names_filled_cells;
    }

    pub record_formed : (r : ℕ) (x : Option Record) → names_filled h.cells x ≡ true
        → WellFormed (with_record h r x)
    record_formed r x e = record {
      cell_count = wf.cell_count;
      record_count = length-kept h.records _ r 4096 x refl wf.record_count;
      sizes_fit = wf.sizes_fit;
      names_filled_cells = names_with h.cells h.records _ r x refl e wf.names_filled_cells;
    }

    -- the new heap where there is no fault, else the old
    left_formed : (x : Option Fault) (new : Meaning) → (x ≡ None → WellFormed new) → WellFormed (left x new h)
    left_formed None new f = f refl
    left_formed (Some _) new f = wf

    pub after_formed : (call : Call List) → WellFormed (after_call h call)
    after_formed (put c n) =
        left_formed (put_fault h c n) _ (λ e. cell_formed c n (first_none (empty_fault h c 1) _ e).1)
    after_formed (root r t) =
        left_formed (root_fault h r t) _
        (λ e. record_formed r (Some (Root t)) (cell_filled t 2 (first_none (free_fault h r 1) _ e).1))
    after_formed (link r a t k) =
        left_formed (link_fault h r a t k) _ (λ e.
        let p = first_none (free_fault h r 1) _ e in
        let q = first_none (filled_fault h a 2) _ p.1 in
        let w = first_none (filled_fault h t 3) _ q.1 in
        record_formed r (Some (Link a t (strength_of k)))
        (and_from (filled_in h.cells a) (filled_in h.cells t) (cell_filled a 2 q.0) (cell_filled t 3 w.0)))
    after_formed (tie r a b v) =
        left_formed (tie_fault h r a b v) _ (λ e.
        let p = first_none (free_fault h r 1) _ e in
        let q = first_none (filled_fault h a 2) _ p.1 in
        let w = first_none (filled_fault h b 3) _ q.1 in
        record_formed r (Some (Ephemeron a b v))
        (and_from (filled_in h.cells a) (filled_in h.cells b && filled_in h.cells v) (cell_filled a 2 q.0)
        (and_from (filled_in h.cells b) (filled_in h.cells v) (cell_filled b 3 w.0) (cell_filled v 4 w.1))))
    after_formed (erase r) = left_formed (erase_fault h r) _ (λ e. record_formed r None refl)
    after_formed (grade k s law rows) = wf
    after_formed (why k s law cell rows steps) = wf
    after_formed (sweep k s law limit rows cells records) =
        left_formed (sweep_fault rows cells records) _ (λ e. emptied_formed (kept s limit h) h wf)

pub empty_formed : WellFormed empty_heap
empty_formed = record {
  cell_count = length-new empty_heap.cells 1024 None refl;
  record_count = length-new empty_heap.records 4096 None refl;
  sizes_fit = sizes_new empty_heap.cells 1024 refl;
  names_filled_cells = names_new empty_heap.cells empty_heap.records 4096 refl;
}
