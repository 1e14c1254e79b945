use Rattle.aso_outline.proofs.Acyclic.{kept_ranks}
use Rattle.aso_outline.proofs.outline.Outline.keeps_ranks.Goals as goal

pub returns : goal.returns
returns c = kept_ranks c.args.self.now c.keeps.ensures
