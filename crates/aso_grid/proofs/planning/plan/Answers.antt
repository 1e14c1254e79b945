use Rattle.std.proofs.Common.{subst, sym}
use Rattle.aso_grid.specs.declared.grid_plan.GridPlan.{GridPlan}
use Rattle.aso_grid.specs.Plans.{AreLong, IsSized}
use Rattle.aso_grid.proofs.PlanLemmas.{long, sized}
use Rattle.aso_grid.proofs.planning.plan.Goals as goal

pub returns-clause-sized : goal.returns-clause-sized
returns-clause-sized c =
    subst IsSized (sym c.in_ok-make_plan.ensures) (sized c.args.outline.now c.as_slice-own.result.now c.args.query.now c.in_ok-check.ensures.taken.1)

pub returns-clause-long : goal.returns-clause-long
returns-clause-long c =
    subst (λ (p : GridPlan). AreLong c.args.outline.now p.cells) (sym c.in_ok-make_plan.ensures) (long c.args.outline.now c.as_slice-own.result.now c.args.query.now)
