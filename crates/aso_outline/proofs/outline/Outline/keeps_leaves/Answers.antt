use Rattle.aso_outline.proofs.KeptRules.{kept_leaves}
use Rattle.aso_outline.proofs.outline.Outline.keeps_leaves.Goals as goal

pub returns : goal.returns
returns c = kept_leaves c.args.self.now c.keeps.ensures
