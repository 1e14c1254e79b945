use Rattle.aso_script.proofs.Exact.{spells_one}
use Rattle.aso_script.proofs.laws.spells_one_addition.Goals as goal

pub returns : goal.returns
returns c = spells_one
