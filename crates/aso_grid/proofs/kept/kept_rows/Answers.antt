use Rattle.aso_grid.specs.Grids.{is_row_kept}
use Rattle.aso_grid.proofs.Turns.{kept_put}
use Rattle.aso_grid.proofs.kept.kept_rows.Goals as goal

pub loop-row-preserved : goal.loop-row-preserved
loop-row-preserved c =
    kept_put (is_row_kept c.args.plan.now c.args.values.now) c.loop-row.row c.is_row_kept.result c.loop-row.kept.items c.push_if.new.kept.items
    c.loop-row.invariant c.in_ok-push_if.ensures c.is_row_kept.ensures
