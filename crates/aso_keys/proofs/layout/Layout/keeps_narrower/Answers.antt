use Rattle.std.proofs.Common.{subst}
use Rattle.aso_keys.specs.Axes.{ArePlaced}
use Rattle.aso_keys.proofs.FilledLemmas.{narrower_layout}
use Rattle.aso_keys.proofs.layout.Layout.keeps_narrower.Goals as goal

pub returns : goal.returns
returns c =
    narrower_layout c.args.outline.now c.keeps.ensures c.args.coarser.now.choices c.args.view.now.choices c.args.to.now c.args.self.now c.requires.other_view c.requires.view c.requires.coarser c.requires.other c.requires.own
    (subst ArePlaced c.to.view_is c.to.invariant.0) (subst ArePlaced c.self.view_is c.self.invariant.0)
