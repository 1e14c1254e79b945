use Rattle.aso_keys.proofs.ViewLemmas.{levels_more}
use Rattle.aso_keys.proofs.views.add_all.Goals as goal

pub loop-level-preserved : goal.loop-level-preserved
loop-level-preserved c = levels_more c.args.hier c.loop-level.level c.args.offered.now.items c.loop-level.offered.items c.push.new.self.items c.in_ok-push.ensures.items c.loop-level.invariant
