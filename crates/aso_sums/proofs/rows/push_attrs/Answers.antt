use Rattle.std.proofs.Common.{rules}
use Rattle.aso_sums.proofs.Placing.{attr_more, attr_stays}
use Rattle.aso_sums.proofs.rows.push_attrs.Goals as goal
use Rattle.aso_sums.proofs.rows.push_attrs.Goals.{in-Some+in_ok-push, in_default}

pub loop-a-preserved : goal.loop-a-preserved
loop-a-preserved c =
    elim c.match-asked-a.branch [
      | in-Some+in_ok-push w ↦ attr_more c.args.tuple.now c.args.all.now.items c.loop-a.all.items c.match-asked-a.all.items c.loop-a.a w.in-Some.m (search rules) (search rules) c.loop-a.invariant
      | in_default w ↦ attr_stays c.args.tuple.now c.args.all.now.items c.loop-a.all.items c.match-asked-a.all.items c.loop-a.a (search rules) (search rules) c.loop-a.invariant
    ]
