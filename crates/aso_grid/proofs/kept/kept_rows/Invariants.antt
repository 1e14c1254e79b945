use Rattle.std.proofs.Common.{◌≡◌}
use Rattle.std.specs.List.{filter, range_with_len}
use Rattle.aso_grid.specs.Grids.{is_row_kept}
use Rattle.aso_grid.proofs.kept.kept_rows.Given as goal

abbrev pub invariant-loop-row : goal.invariant-loop-row
invariant-loop-row l = l.kept.items ≡ filter (is_row_kept l.plan l.values) (range_with_len 0 l.row)
