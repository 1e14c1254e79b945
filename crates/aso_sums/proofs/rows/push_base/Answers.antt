use Rattle.aso_sums.proofs.Placing.{base_more}
use Rattle.aso_sums.proofs.rows.push_base.Goals as goal

pub loop-d-preserved : goal.loop-d-preserved
loop-d-preserved c = base_more c.args.tuple.now c.args.all.now.items c.loop-d.all.items c.push.new.self.items c.loop-d.d (rw c.items-members.ensures at c.in_ok-push.ensures.items) c.loop-d.invariant
