use Rattle.std.proofs.Common.{subst}
use Rattle.aso_keys.specs.Axes.{ArePlaced}
use Rattle.aso_keys.proofs.FilledLemmas.{layout_bits}
use Rattle.aso_keys.proofs.layout.Layout.keeps_bits.Goals as goal

pub returns : goal.returns
returns c =
    layout_bits c.args.outline.now c.keeps.ensures c.args.view.now.choices c.args.self.now c.requires.view (subst ArePlaced c.self.view_is c.self.invariant.0) c.requires.own
