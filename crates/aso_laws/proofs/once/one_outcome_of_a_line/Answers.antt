use Rattle.aso_laws.proofs.Lines.{one_outcome, one_reading}
use Rattle.aso_laws.proofs.once.one_outcome_of_a_line.Goals as goal

pub returns-clause-reading : goal.returns-clause-reading
returns-clause-reading c = one_reading

pub returns-clause-said : goal.returns-clause-said
returns-clause-said c = one_outcome
