-- Commands: which words make one, and the first fault of a line that makes none.
use Rattle.std.specs.Prelude.{ℕ, cond, List, length, Some, None, Ok, Err, Option, Result, ◌==◌, nat_lt}
use Rattle.model.specs.declared.fault.Cause.{Cause}
use Rattle.model.specs.declared.fault.Cause.TheVariants.{LineLong, NoCommand, WordCount, BadWord}
use Rattle.model.specs.Faults.{fault}
use Rattle.text.specs.declared.refusal.Refusal.{Refusal}
use Rattle.text.specs.declared.command.Command.{Command}
use Rattle.text.specs.declared.command.Command.TheVariants.{Put, Root, Link, Tie, Erase, Grade, Why}
use Rattle.text.specs.declared.command.SchemeName.{SchemeName}
use Rattle.text.specs.declared.command.SchemeName.TheVariants.{Strength, Bytes, Depth}
use Rattle.text.specs.Words.{Lexeme, numeral, letter, other, Reading, reading}
use Rattle.text.specs.Numbers.{number_of_digits}

-- a fault of the text at a byte
abbrev pub refuse : {A : Type 0} → Cause → ℕ → Result A Refusal
refuse c at = Err (record { fault = fault c at; byte = at })

-- a value that has to be there
abbrev pub wanted : {A : Type 0} → Option A → ℕ → Result A Refusal
wanted None at = refuse BadWord at
wanted (Some a) at = Ok a

-- one step after another, until the first fault
abbrev pub then : {A B : Type 0} → Result A Refusal → (A → Result B Refusal) → Result B Refusal
then (Ok a) f = f a
then (Err e) f = Err e

-- a word as a number
abbrev pub number_in : Lexeme → Result ℕ Refusal
number_in (numeral ds at) = wanted (number_of_digits ds) at
number_in (letter b at) = refuse BadWord at
number_in (other at) = refuse BadWord at

-- s strong 0, f soft 1, w weak 2, p phantom 3
abbrev pub strength_letter : ℕ → Option ℕ
strength_letter b =
    cond (b == 115) (Some 0)
    (cond (b == 102) (Some 1)
    (cond (b == 119) (Some 2)
    (cond (b == 112) (Some 3) None)))

-- s strength, b bytes, d depth
abbrev pub scheme_letter : ℕ → Option SchemeName
scheme_letter b =
    cond (b == 115) (Some Strength) (cond (b == 98) (Some Bytes) (cond (b == 100) (Some Depth) None))

abbrev pub strength_in : Lexeme → Result ℕ Refusal
strength_in (numeral ds at) = refuse BadWord at
strength_in (letter b at) = wanted (strength_letter b) at
strength_in (other at) = refuse BadWord at

abbrev pub scheme_in : Lexeme → Result SchemeName Refusal
scheme_in (numeral ds at) = refuse BadWord at
scheme_in (letter b at) = wanted (scheme_letter b) at
scheme_in (other at) = refuse BadWord at

-- the words have to be n
abbrev pub counted : {A : Type 0} → Reading → ℕ → Result A Refusal → Result A Refusal
counted w n r = cond (w.count == n) r (refuse WordCount 0)

-- c N SIZE
abbrev pub put_in : Reading → Result Command Refusal
put_in w =
    counted w 3 (then (number_in w.first) (λ cell.
    then (number_in w.second) (λ size. Ok (Put cell size))))

-- r R T
abbrev pub root_in : Reading → Result Command Refusal
root_in w =
    counted w 3 (then (number_in w.first) (λ number.
    then (number_in w.second) (λ target. Ok (Root number target))))

-- l R S T K
abbrev pub link_in : Reading → Result Command Refusal
link_in w =
    counted w 5 (then (number_in w.first) (λ number.
    then (number_in w.second) (λ source.
    then (number_in w.third) (λ target.
    then (strength_in w.fourth) (λ strength. Ok (Link number source target strength))))))

-- e R TABLE KEY VALUE
abbrev pub tie_in : Reading → Result Command Refusal
tie_in w =
    counted w 5 (then (number_in w.first) (λ number.
    then (number_in w.second) (λ table.
    then (number_in w.third) (λ key.
    then (number_in w.fourth) (λ value. Ok (Tie number table key value))))))

-- x R
abbrev pub erase_in : Reading → Result Command Refusal
erase_in w = counted w 2 (then (number_in w.first) (λ number. Ok (Erase number)))

-- g M
abbrev pub grade_in : Reading → Result Command Refusal
grade_in w = counted w 2 (then (scheme_in w.first) (λ scheme. Ok (Grade scheme)))

-- w M N
abbrev pub why_in : Reading → Result Command Refusal
why_in w =
    counted w 3 (then (scheme_in w.first) (λ scheme.
    then (number_in w.second) (λ cell. Ok (Why scheme cell))))

abbrev pub by_letter : ℕ → Reading → Result Command Refusal
by_letter b w =
    cond (b == 99) (put_in w)
    (cond (b == 114) (root_in w)
    (cond (b == 108) (link_in w)
    (cond (b == 101) (tie_in w)
    (cond (b == 120) (erase_in w)
    (cond (b == 103) (grade_in w)
    (cond (b == 119) (why_in w)
    (refuse NoCommand 0)))))))

-- the first word names the command
abbrev pub by_verb : Lexeme → Reading → Result Command Refusal
by_verb (numeral ds at) w = refuse NoCommand 0
by_verb (letter b at) w = by_letter b w
by_verb (other at) w = refuse NoCommand 0

-- the command that the words make, or the first fault: no command, a wrong
-- count of words, then from the left a bad number or letter
abbrev pub command_in : Reading → Result Command Refusal
command_in w = by_verb w.verb w

-- the words of a line of at most 80 bytes
abbrev pub words_in : List ℕ → Result Reading Refusal
words_in line = cond (nat_lt 80 (length line)) (refuse LineLong 80) (Ok (reading line))
