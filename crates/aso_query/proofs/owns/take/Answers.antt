use Rattle.std.proofs.lemmas.Result.{err_from_is_err_and}
use Rattle.aso_query.proofs.owns.take.Goals as goal

pub returns-in_err-formula-clause-refused : goal.returns-in_err-formula-clause-refused
returns-in_err-formula-clause-refused c =
    let p = err_from_is_err_and c.from_residual.result c.from_residual.ensures.1 in
    rw (p.1, p.2) (c.in_err-formula.ensures.refused c.args.extra.now.members.items)
