use Rattle.aso_keys.proofs.RangeLemmas.{layout_ranges}
use Rattle.aso_keys.proofs.layout.Layout.keeps_ranges.Goals as goal

pub returns : goal.returns
returns c = layout_ranges c.args.outline.now c.args.view.now.choices c.args.self.now c.requires
