use Rattle.aso_keys.specs.Views.{choice_at}
use Rattle.aso_keys.proofs.MakingLemmas.{axis_is}
use Rattle.aso_keys.proofs.making.dim_axis.Goals as goal

pub returns-clause-of : goal.returns-clause-of
returns-clause-of c =
    axis_is c.args.outline.now c.args.dim c.classes-count.result c.choice-hier.result (choice_at c.args.view.now.choices c.args.dim) c.in_ok-classes.classes.items c.in_ok-ranges.ranges c.axis_of.result
    c.axis_of.ensures.classes c.axis_of.ensures.count c.axis_of.ensures.ranges c.in_ok-ranges.ensures c.in_ok-classes.ensures.classes c.classes-count.ensures c.choice-hier.ensures.value
