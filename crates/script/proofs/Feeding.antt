-- Fed byte by byte, a script prints the answers to its lines.
use Rattle.std.proofs.Common.{◌≡◌, ℕ, Bool, true, false, cond, eqb, List, [], ◌∷◌, ◌++◌, length, take, Result, sym, refl, ap, ◌∙◌, ap₂, inl, inr, append_assoc, append-nil, arith, length-append, length-take, le-ltb, lt-ltb, eq-eqb, ne_eqb}
use Rattle.std.proofs.lemmas.List.{take_all, take-append-le}
use Rattle.std.proofs.lemmas.Bool.{cases_lt}
use Rattle.model.specs.Meaning.{Meaning}
use Rattle.text.specs.declared.command.Command.{Command}
use Rattle.text.specs.declared.refusal.Refusal.{Refusal}
use Rattle.text.specs.Words.{Reading}
use Rattle.text.specs.Commands.{words_in, command_in, then}
use Rattle.script.specs.Lines.{obeyed, heap_after, answer_line, after_if, outcome_text, placed, fault_of}
use Rattle.script.specs.Scripts.{State, lines_of, onto_first, answers, output, with_byte, end_prints, line_ended, line_answer, AnswersEachLine}
use Rattle.model.specs.Faults.{answer}

-- the first 81 bytes say as much as the whole line
words_cap : (q : List ℕ) → words_in (take 81 q) ≡ words_in q
words_cap q = elim (cases_lt 81 (length q)) [
  | inl l ↦ (
      let e = length-take 81 q in
      let a = lt-ltb 80 (length (take 81 q)) (omega arith) in
      let b = lt-ltb 80 (length q) (omega arith) in
      rw (a, b))
  | inr l ↦ ap words_in (take_all 81 q l)
]

obeyed_cap : (h : Meaning) (q : List ℕ) → obeyed h (take 81 q) ≡ obeyed h q
obeyed_cap h q =
    ap {B = Result Command Refusal}
    (λ (r : Result Reading Refusal). then r (λ w. then (command_in w) (λ c. placed w (answer
    (fault_of h c) c))))
    (words_cap q)

answer_cap : (h : Meaning) (q : List ℕ) → answer_line h (take 81 q) ≡ answer_line h q
answer_cap h q = ap (λ (r : Result Command Refusal). outcome_text h r ++ (10 ∷ [])) (obeyed_cap h q)

after_cap : (h : Meaning) (q : List ℕ) → heap_after h (take 81 q) ≡ heap_after h q
after_cap h q = ap (after_if h) (obeyed_cap h q)

-- the state in the midst of a line that began with q
abbrev midst : Meaning → List ℕ → State
midst h q = record { heap = h; line = take 81 q }

kept_cap : (h : Meaning) (q : List ℕ) (b : ℕ) → with_byte (midst h q) b ≡ midst h (q ++ (b ∷ []))
kept_cap h q b = ap (λ (l : List ℕ). record { heap = h; line = l }) (elim (cases_lt (length q) 81) [
  | inl l ↦ (
      let e = take_all 81 q (omega arith) in
      let k = length-append q (b ∷ []) in
      let f = take_all 81 (q ++ (b ∷ [])) (omega arith) in
      let t = lt-ltb (length q) 81 l in
      rw (e, t, f))
  | inr l ↦ (
      let e = length-take 81 q in
      let t = le-ltb (length (take 81 q)) 81 (omega arith) in
      rw t (sym (take-append-le 81 q (b ∷ []) l)))
])

-- lines the first of which began with q
abbrev begun : List ℕ → List (List ℕ) → List (List ℕ)
begun q [] = cond (eqb (length q) 0) [] (q ∷ [])
begun q (l ∷ ls) = (q ++ l) ∷ ls

begun_none : (ls : List (List ℕ)) → begun [] ls ≡ ls
begun_none [] = refl
begun_none (l ∷ ls) = refl

begun_more : (q : List ℕ) (b : ℕ) (ls : List (List ℕ)) → begun (q ++ (b ∷ [])) ls ≡ begun q
    (onto_first b ls)
begun_more q b [] =
    let k = length-append q (b ∷ []) in
    let t = ne_eqb (length (q ++ (b ∷ []))) 0 (λ e. omega arith) in
    rw t
begun_more q b (l ∷ ls) = ap (λ (x : List ℕ). x ∷ ls) (append_assoc q (b ∷ []) l)

-- the end of the input in the midst of a line
ends : (h : Meaning) (q : List ℕ) → end_prints (midst h q) ≡ answers h (begun q [])
unfolding answers
ends h q = elim (cases_lt 0 (length q)) [
  | inl l ↦ (
      let e = length-take 81 q in
      let s = ne_eqb (length (take 81 q)) 0 (λ z. omega arith) in
      let t = ne_eqb (length q) 0 (λ z. omega arith) in
      rw (s, t) (answer_cap h q ∙ sym (append-nil (answer_line h q))))
  | inr l ↦ (
      let e = length-take 81 q in
      let s = eq-eqb (length (take 81 q)) 0 (omega arith) in
      let t = eq-eqb (length q) 0 (omega arith) in
      rw (s, t))
]

-- a byte that ends the line, and any other
feeds_end : (h : Meaning) (q bs : List ℕ) →
    output (midst (heap_after h (take 81 q)) []) bs ≡ answers (heap_after h (take 81 q)) (begun []
    (lines_of bs)) →
    line_answer (midst h q) ++ output (line_ended (midst h q)) bs ≡ answers h (begun q ([] ∷ lines_of bs))
unfolding answers
feeds_end h q bs ih =
    ap₂ (λ (x : List ℕ) (y : List ℕ). x ++ y)
    (answer_cap h q ∙ ap (answer_line h) (sym (append-nil q)))
    (ih ∙ ap₂ answers (after_cap h q ∙ ap (heap_after h) (sym (append-nil q))) (begun_none (lines_of bs)))

feeds : (h : Meaning) (q bs : List ℕ) → output (midst h q) bs ≡ answers h (begun q (lines_of bs))
unfolding output lines_of
feeds h q [] = ends h q
feeds h q (b ∷ bs) =
    go (eqb b 10) (feeds (heap_after h (take 81 q)) [] bs) (feeds h (q ++ (b ∷ [])) bs)
  where
    go : (t : Bool) →
        output (midst (heap_after h (take 81 q)) []) bs ≡ answers (heap_after h (take 81 q)) (begun []
        (lines_of bs)) →
        output (midst h (q ++ (b ∷ []))) bs ≡ answers h (begun (q ++ (b ∷ [])) (lines_of bs)) →
        cond t (line_answer (midst h q)) [] ++ output (cond t (line_ended (midst h q)) (with_byte
        (midst h q) b)) bs
        ≡ answers h (begun q (cond t ([] ∷ lines_of bs) (onto_first b (lines_of bs))))
    go true i j = feeds_end h q bs i
    go false i j =
        ap (λ (st : State). output st bs) (kept_cap h q b) ∙ (j ∙ ap (answers h) (begun_more q b
        (lines_of bs)))

pub answers_each_line : (st : State) → st.line ≡ [] → AnswersEachLine st
answers_each_line st e input =
    ap (λ (l : List ℕ). output (record { heap = st.heap; line = l }) input) e
    ∙ (feeds st.heap [] input ∙ ap (answers st.heap) (begun_none (lines_of input)))
