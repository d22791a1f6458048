-- What is printed of a saved heap's file.
use Rattle.std.specs.Prelude.{ℕ, List, [], ◌∷◌, ◌++◌, Some, None, codes, decimal, Option}
use Rattle.model.specs.declared.fault.Fault.{Fault}
use Rattle.model.specs.Meaning.{Meaning}
use Rattle.text.specs.declared.command.SchemeName.{SchemeName}
use Rattle.script.specs.Answers.{refusal_text}
use Rattle.script.specs.Lines.{scheme_text, scheme_why_text}
use Rattle.report.specs.declared.inspect.Wanted.{Wanted}
use Rattle.report.specs.declared.inspect.Wanted.TheVariants.{Summary, Grades, Why}
use Rattle.snapshot.specs.Laid.{file_fault, laid_down}
use Rattle.report.specs.Count.{count_filled}

-- ok, how many cells are filled, how many records
abbrev pub summary_text : Meaning → List ℕ
summary_text h =
    codes "ok " ++ decimal (count_filled h.cells) ++ codes " " ++ decimal (count_filled h.records) ++ (10 ∷ [])

-- the answer that a script's grading has
abbrev pub graded_line : SchemeName → Meaning → List ℕ
graded_line scheme h = scheme_text scheme h ++ (10 ∷ [])

-- .. and the one that its explanation of a cell has
abbrev pub explained_lines : SchemeName → ℕ → Meaning → List ℕ
explained_lines scheme cell h = graded_line scheme h ++ scheme_why_text scheme h cell ++ (10 ∷ [])

abbrev pub wanted_lines : Wanted → Meaning → List ℕ
wanted_lines Summary h = []
wanted_lines (Grades scheme) h = graded_line scheme h
wanted_lines (Why scheme cell) h = explained_lines scheme cell h

abbrev pub shown_text : Wanted → Meaning → List ℕ
shown_text wanted h = summary_text h ++ wanted_lines wanted h

-- no, the layer's letter, the number, and the place in the file
abbrev pub file_refusal_text : Fault → List ℕ
file_refusal_text f = refusal_text (record { fault = f; byte = f.place }) ++ (10 ∷ [])

abbrev pub inspected : Option Fault → Wanted → Meaning → List ℕ
inspected None wanted h = shown_text wanted h
inspected (Some f) wanted h = file_refusal_text f

-- a file that opens is summed up and shown; one that does not is refused
abbrev pub inspect_text : List ℕ → Wanted → List ℕ
inspect_text bs wanted = inspected (file_fault bs) wanted (laid_down bs)
