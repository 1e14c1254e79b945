use Rattle.aso_calc.specs.Stored.{given_at}
use Rattle.aso_calc.proofs.UnfoldLemmas.{unfolds}
use Rattle.aso_calc.proofs.unfolding.value.Goals as goal

pub returns-clause-unfolds : goal.returns-clause-unfolds
returns-clause-unfolds c right attrs = unfolds c.args.outline.now c.args.extra.now.members.items c.keeps.ensures right (given_at c.args.stored.now attrs)
