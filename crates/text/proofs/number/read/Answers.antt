-- Reading a number: each call of the closure reads a digit.
use Rattle.std.proofs.Common.{rules, ◌∙◌}
use borrow.Author.Tests.{tests}
use Rattle.std.proofs.lemmas.Iterator.{YieldsList-from_slice}
use Rattle.text.proofs.Folding.{try_fold_over}
use Rattle.text.proofs.Digits.{read_digit, number_folded}
use Rattle.text.proofs.number.read.Goals as goal

pub returns : goal.returns
returns c =
    let ds = c.args.digits.now in
    try_fold_over read_digit _ 0 _ _ _ c.try_fold.ensures.ran (YieldsList-from_slice ds cc)
    (λ e r k. k) (λ n x o q k. search (rules, tests))
    ∙ number_folded ds
