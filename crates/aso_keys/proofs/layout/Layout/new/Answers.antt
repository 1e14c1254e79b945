use Rattle.std.proofs.Common.{arith, ◌+◌, ◌-◌, refl}
use Rattle.aso_keys.proofs.MakingLemmas.{building_none, building_more}
use Rattle.aso_keys.proofs.layout.Layout.new.Goals as goal

pub loop-back-init : goal.loop-back-init
loop-back-init c = building_none c.args.outline.now c.args.view.now.choices (c.dims-dims.result - 0) 0 c.new-axes.result.items refl c.new-axes.ensures.items

pub loop-back-preserved : goal.loop-back-preserved
loop-back-preserved c =
    building_more c.args.outline.now c.args.view.now.choices c.dims-dims.result c.loop-back.back c.loop-back.bits (c.loop-back.bits + c.in_ok-axis.axis.width) c.in_ok-axis.axis c.loop-back.axes.items c.push.new.self.items
    (omega arith) refl c.in_ok-push.ensures.items c.in_ok-axis.ensures.axis c.in_ok-axis.ensures.of c.in_ok-axis.ensures.shift c.loop-back.invariant
