-- The words counted, with those of the rest of the line, are the words of the line and one more.
use Rattle.std.proofs.Common.{◌≡◌, ◌+◌, ◌≤◌, drop}
use Rattle.text.specs.Words.{word_count}
use Rattle.text.proofs.words.count_words.Given as goal

abbrev pub invariant-loop-b : goal.invariant-loop-b
invariant-loop-b l =
    (l.count ≤ l.b-index + 1)
    × (l.count + word_count (drop l.b-index l.line) ≡ word_count l.line + 1)
