use Rattle.aso_outline.proofs.Rooted.{kept_trees}
use Rattle.aso_outline.proofs.outline.Outline.keeps_roots.Goals as goal

pub returns : goal.returns
returns c = kept_trees c.args.self.now c.keeps.ensures
