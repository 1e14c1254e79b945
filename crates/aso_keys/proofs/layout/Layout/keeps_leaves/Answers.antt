use Rattle.aso_keys.proofs.FilledLemmas.{layout_leaves}
use Rattle.aso_keys.proofs.layout.Layout.keeps_leaves.Goals as goal

pub returns : goal.returns
returns c = layout_leaves c.args.outline.now c.keeps.ensures c.args.view.now.choices c.args.self.now c.requires.view c.requires.own
