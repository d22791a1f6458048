use Rattle.std.proofs.Common.{◌≡◌, get_or, Some, None, Ok, Option, sym, ◌∙◌, arith}
use Rattle.std.specs.Option.{ok_or}
use Rattle.std.proofs.lemmas.List.{get_or_default}
use Rattle.explain.proofs.tell.Goals as goal

some_from_ok : {A E : Type 0} (o : Option A) (e : E) (x : A) → ok_or o e ≡ Ok x → o ≡ Some x
some_from_ok None e x is = cc
some_from_ok (Some y) e x is = cc

pub walk-path-requires-clause-turn : goal.walk-path-requires-clause-turn
walk-path-requires-clause-turn g c =
    let graded = c.args.graded.now in
    let wide = graded.wide in
    let rows = graded.rows.now in
    let found = some_from_ok (get_or rows c.args.cell _) _ c.in_ok-row.row (sym c.ok_or.ensures.value ∙ c.in_ok-row.was) in
    graded.timely c.args.cell c.in_ok-row.row (get_or_default rows c.args.cell None _ (omega arith) ∙ found)
