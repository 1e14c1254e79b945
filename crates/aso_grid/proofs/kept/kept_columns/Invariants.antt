use Rattle.std.proofs.Common.{◌≡◌}
use Rattle.std.specs.List.{filter, range_with_len}
use Rattle.aso_grid.specs.Grids.{is_column_kept}
use Rattle.aso_grid.proofs.kept.kept_columns.Given as goal

abbrev pub invariant-loop-column : goal.invariant-loop-column
invariant-loop-column l = l.kept.items ≡ filter (is_column_kept l.plan l.values) (range_with_len 0 l.column)
