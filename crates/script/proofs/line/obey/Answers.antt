-- A fault of the heap refuses the line.
use Rattle.std.proofs.Common.{Err, ap, ◌∙◌}
use Rattle.std.proofs.lemmas.Result.{err_from_is_err_and}
use Rattle.live.specs.Live.{meaning_of}
use Rattle.text.specs.Tokens.{reading_of}
use Rattle.script.proofs.Obeying.{line_refused}
use Rattle.script.proofs.line.obey.Goals as goal

pub returns-in_err-at_word : goal.returns-in_err-at_word
returns-in_err-at_word c =
    let b = c.from_residual-in_err-at_word in
    let p = err_from_is_err_and b.result b.ensures.1 in
    let q = line_refused (meaning_of c.args.heap.now) c.args.line.now
    (reading_of c.in_ok-words.words) c.in_ok-command.command
    c.in_ok-words.ensures c.in_ok-command.ensures
    c.perform.result c.perform.ensures.answers c.in_err-at_word.ensures in
    record { answers = p.1 ∙ ap Err p.2 ∙ q.0; leaves = c.perform.ensures.leaves ∙ q.1 }
