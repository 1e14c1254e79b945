use Rattle.aso_outline.proofs.KeptRules.{kept_counts}
use Rattle.aso_outline.proofs.outline.Outline.keeps_counts.Goals as goal

pub returns : goal.returns
returns c = kept_counts c.args.self.now c.keeps.ensures
