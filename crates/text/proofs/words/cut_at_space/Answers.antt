-- The first word ends before the first space, or with the line.
use Rattle.std.proofs.Common.{rules, ◌≡◌, ◌≤◌, ◌+◌, length, sym, ◌∙◌, arith}
use Rattle.std.proofs.lemmas.Iterator.{YieldsList-from_slice}
use Rattle.std.proofs.lemmas.Iterator.Search.{position_from_yields_List}
use Rattle.std.proofs.lemmas.List.{drop_all, take_all}
use Rattle.std.proofs.lemmas.Slice.{between_to_end}
use Rattle.std.specs.List.{position_or_len}
use Rattle.text.proofs.Fronts.{is_space, front_before, behind_after, space_found, no_space}
use Rattle.text.proofs.words.cut_at_space.Goals as goal

found : (c : goal.After-result-1) → c.in-Some.i ≡ position_or_len is_space c.args.bytes.now
found c =
    space_found c.args.bytes.now c.in-Some.i
    (position_from_yields_List is_space _ _ _ c.in-Some.ensures.ran (YieldsList-from_slice c.args.bytes.now cc) (λ x b q k. search rules))

none : (c : goal.After-result-in-None-2-1) → length c.args.bytes.now ≤ position_or_len is_space c.args.bytes.now
none c =
    no_space c.args.bytes.now
    (position_from_yields_List is_space _ _ _ c.in-None.ensures.ran (YieldsList-from_slice c.args.bytes.now cc) (λ x b q k. search rules))

pub returns-in-Some-clause-before : goal.returns-in-Some-clause-before
returns-in-Some-clause-before c = rw (found c) (front_before c.args.bytes.now)

pub returns-in-Some-clause-behind : goal.returns-in-Some-clause-behind
returns-in-Some-clause-behind c =
    let bs = c.args.bytes.now in
    between_to_end bs (c.in-Some.i + 1) (length bs) (omega arith) ∙ rw (found c) (behind_after bs)

pub returns-in-None-clause-before : goal.returns-in-None-clause-before
returns-in-None-clause-before c =
    let bs = c.args.bytes.now in
    sym (take_all (position_or_len is_space bs) bs (none c)) ∙ front_before bs

pub returns-in-None-clause-behind : goal.returns-in-None-clause-behind
returns-in-None-clause-behind c =
    let bs = c.args.bytes.now in
    sym (drop_all (position_or_len is_space bs + 1) bs (omega (arith, none c))) ∙ behind_after bs
