-- What a line does: the heap after it, and the answer that is printed.
use Rattle.std.specs.Prelude.{ℕ, List, [], ◌∷◌, ◌++◌, replicate, Some, None, Ok, Err, codes, Option, Result}
use Rattle.model.specs.declared.fault.Fault.{Fault}
use Rattle.model.specs.Faults.{answer}
use Rattle.model.specs.Meaning.{Meaning}
use Rattle.model.specs.Schemes.{Scheme}
use Rattle.model.specs.Settling.{Rows, graded, weighed}
use Rattle.model.specs.Grading.{rows_fault}
use Rattle.model.specs.Explaining.{why_answer, steps_after}
use Rattle.model.specs.declared.row.Why.{Why as Explanation}
use Rattle.std.specs.Result.{result_err}
use Rattle.model.specs.Calls.{put_fault, root_fault, link_fault, tie_fault, erase_fault}
use Rattle.model.specs.Calls.{put_after, root_after, link_after, tie_after, erase_after}
use Rattle.schemes.specs.Strength.{by_strength}
use Rattle.schemes.specs.Bytes.{by_bytes}
use Rattle.schemes.specs.Depth.{by_depth}
use Rattle.text.specs.declared.refusal.Refusal.{Refusal}
use Rattle.text.specs.declared.command.Command.{Command}
use Rattle.text.specs.declared.command.Command.TheVariants.{Put, Root, Link, Tie, Erase, Grade, Why}
use Rattle.text.specs.declared.command.SchemeName.{SchemeName}
use Rattle.text.specs.declared.command.SchemeName.TheVariants.{Strength, Bytes, Depth}
use Rattle.text.specs.Words.{Reading, byte_of}
use Rattle.text.specs.Commands.{words_in, command_in, then}
use Rattle.script.specs.Answers.{refusal_text, graded_text, explained_text, strength_text, bytes_text, depth_text}

-- gradings and explanations are handed memory enough: 1,024 rows and 1,024 steps
abbrev pub fresh_rows : {G : Type 0} → Rows G
fresh_rows = replicate 1024 None

abbrev pub fresh_steps : List ℕ
fresh_steps = replicate 1024 0

abbrev pub why_under : {G : Type 0} → Scheme G → Meaning → ℕ → Result (Explanation G) Fault
why_under s h c = why_answer s h c fresh_rows fresh_steps

-- the fault of asking why, if there is one
abbrev pub why_fault_under : SchemeName → Meaning → ℕ → Option Fault
why_fault_under Strength h c = result_err (why_under by_strength h c)
why_fault_under Bytes h c = result_err (why_under by_bytes h c)
why_fault_under Depth h c = result_err (why_under by_depth h c)

-- the fault of a command, if the heap finds one
abbrev pub fault_of : Meaning → Command → Option Fault
fault_of h (Put cell size) = put_fault h cell size
fault_of h (Root number target) = root_fault h number target
fault_of h (Link number source target strength) = link_fault h number source target strength
fault_of h (Tie number table key value) = tie_fault h number table key value
fault_of h (Erase number) = erase_fault h number
fault_of h (Grade scheme) = None
fault_of h (Why scheme cell) = why_fault_under scheme h cell

-- the heap after a command
abbrev pub after_command : Meaning → Command → Meaning
after_command h (Put cell size) = put_after h cell size
after_command h (Root number target) = root_after h number target
after_command h (Link number source target strength) = link_after h number source target strength
after_command h (Tie number table key value) = tie_after h number table key value
after_command h (Erase number) = erase_after h number
after_command h (Grade scheme) = h
after_command h (Why scheme cell) = h

-- the heap's fault whole, with the byte where its argument's word begins
abbrev pub placed : {A : Type 0} → Reading → Result A Fault → Result A Refusal
placed w (Ok a) = Ok a
placed w (Err f) = Err (record { fault = f; byte = byte_of w f.place })

-- the command of a line that is obeyed, or the line's first fault
abbrev pub obeyed : Meaning → List ℕ → Result Command Refusal
obeyed h line =
    then (words_in line) (λ w. then (command_in w) (λ c. placed w (answer (fault_of h c) c)))

abbrev pub after_if : Meaning → Result Command Refusal → Meaning
after_if h (Ok c) = after_command h c
after_if h (Err r) = h

-- the heap after a line: a refused line leaves it alone
abbrev pub heap_after : Meaning → List ℕ → Meaning
heap_after h line = after_if h (obeyed h line)

-- settled, weighed and the settled cells under a scheme
abbrev pub grades_text : {G : Type 0} → (G → List ℕ) → Scheme G → Meaning → List ℕ
grades_text show s h =
    graded_text show (record { settled = (graded s h).turn; weighed = weighed s h }) (graded s h).rows

abbrev pub text_unless : Option Fault → List ℕ → List ℕ
text_unless None text = text
text_unless (Some f) text = refusal_text (record { fault = f; byte = 0 })

-- the same, with the refusal of too few rows
abbrev pub grading_text : {G : Type 0} → (G → List ℕ) → Scheme G → Meaning → Rows G → List ℕ
grading_text show s h rows = text_unless (rows_fault rows) (grades_text show s h)

abbrev pub scheme_text : SchemeName → Meaning → List ℕ
scheme_text Strength h = grades_text strength_text by_strength h
scheme_text Bytes h = grades_text bytes_text by_bytes h
scheme_text Depth h = grades_text depth_text by_depth h

-- the explanation of a cell, or its refusal, at byte 4, where the cell's word of a line begins
abbrev pub told_text : {G : Type 0} → (G → List ℕ) → Result (Explanation G) Fault → List ℕ → List ℕ
told_text show (Ok k) steps = explained_text show k steps
told_text show (Err f) steps = refusal_text (record { fault = f; byte = 4 })

abbrev pub why_text : {G : Type 0} → (G → List ℕ) → Scheme G → Meaning → ℕ → Rows G → List ℕ → List ℕ
why_text show s h c rows steps = told_text show (why_answer s h c rows steps) (steps_after s h c rows steps)

abbrev pub scheme_why_text : SchemeName → Meaning → ℕ → List ℕ
scheme_why_text Strength h c = why_text strength_text by_strength h c fresh_rows fresh_steps
scheme_why_text Bytes h c = why_text bytes_text by_bytes h c fresh_rows fresh_steps
scheme_why_text Depth h c = why_text depth_text by_depth h c fresh_rows fresh_steps

-- an edit answers ok, a grading its counts and cells, an explanation its steps, a refusal its fault
abbrev pub outcome_text : Meaning → Result Command Refusal → List ℕ
outcome_text h (Ok (Put cell size)) = codes "ok"
outcome_text h (Ok (Root number target)) = codes "ok"
outcome_text h (Ok (Link number source target strength)) = codes "ok"
outcome_text h (Ok (Tie number table key value)) = codes "ok"
outcome_text h (Ok (Erase number)) = codes "ok"
outcome_text h (Ok (Grade scheme)) = scheme_text scheme h
outcome_text h (Ok (Why scheme cell)) = scheme_why_text scheme h cell
outcome_text h (Err r) = refusal_text r

-- the answer to a line, ended by byte 10
abbrev pub answer_line : Meaning → List ℕ → List ℕ
answer_line h line = outcome_text h (obeyed h line) ++ (10 ∷ [])
