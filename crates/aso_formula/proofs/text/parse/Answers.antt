use Rattle.aso_formula.proofs.Answered.{one_formula}
use Rattle.aso_formula.proofs.text.parse.Goals as goal

pub returns-in_err-text_cut-clause-one_value : goal.returns-in_err-text_cut-clause-one_value
returns-in_err-text_cut-clause-one_value c = one_formula c.args.text.now

pub returns-clause-one_value : goal.returns-clause-one_value
returns-clause-one_value c = one_formula c.args.text.now
