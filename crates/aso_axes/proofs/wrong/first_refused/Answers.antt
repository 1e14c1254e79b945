use Rattle.aso_axes.proofs.WrongLemmas.{axis_refuses_none}
use Rattle.aso_axes.proofs.wrong.first_refused.Goals as goal

pub returns-in-Axis : goal.returns-in-Axis
returns-in-Axis c = axis_refuses_none c.args.outline.now c.args.own.now c.args.purpose c.args.part c.args.path.now c.in-Axis.is
