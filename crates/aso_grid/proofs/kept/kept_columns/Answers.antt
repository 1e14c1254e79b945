use Rattle.aso_grid.specs.Grids.{is_column_kept}
use Rattle.aso_grid.proofs.Turns.{kept_put}
use Rattle.aso_grid.proofs.kept.kept_columns.Goals as goal

pub loop-column-preserved : goal.loop-column-preserved
loop-column-preserved c =
    kept_put (is_column_kept c.args.plan.now c.args.values.now) c.loop-column.column c.is_column_kept.result c.loop-column.kept.items c.push_if.new.kept.items
    c.loop-column.invariant c.in_ok-push_if.ensures c.is_column_kept.ensures
