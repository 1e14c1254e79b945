use Rattle.aso_keys.proofs.CoarserLemmas.{coarser_layout}
use Rattle.aso_keys.proofs.layout.Layout.keeps_coarser.Goals as goal

pub returns : goal.returns
returns c =
    coarser_layout c.args.outline.now c.args.coarser.now.choices c.args.view.now.choices c.args.to.now c.args.self.now c.requires.view c.requires.coarser c.requires.other c.requires.own
