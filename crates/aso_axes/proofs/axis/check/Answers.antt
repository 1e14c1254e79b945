use Rattle.std.proofs.Common.{rules}
use Rattle.aso_axes.proofs.axis.check.Goals as goal

pub returns-in_err-check_names-clause-refused : goal.returns-in_err-check_names-clause-refused
returns-in_err-check_names-clause-refused c = search (rules, c.in_err-check_names.ensures.refused c.args.purpose)
