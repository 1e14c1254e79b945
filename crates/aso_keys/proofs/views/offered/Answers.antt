use Rattle.aso_keys.proofs.ViewLemmas.{hiers_more}
use Rattle.aso_keys.proofs.views.offered.Goals as goal

pub loop-hier-preserved : goal.loop-hier-preserved
loop-hier-preserved c = hiers_more c.args.outline.now c.args.dim c.loop-hier.hier c.loop-hier.offered.items c.add_hier.new.offered.items c.in_ok-add_hier.ensures c.loop-hier.invariant
