use Rattle.aso_outline.proofs.Kept.{has_trees, is_small}
use Rattle.aso_outline.proofs.outline.Outline.sound_draft.Goals as goal

pub returns-clause-trees : goal.returns-clause-trees
returns-clause-trees c = has_trees c.args.self.now c.keeps.ensures

pub returns-clause-small : goal.returns-clause-small
returns-clause-small c = is_small c.args.self.now c.keeps.ensures
