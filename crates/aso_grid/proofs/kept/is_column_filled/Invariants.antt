use Rattle.std.proofs.Common.{◌≡◌, ◌-◌, length}
use Rattle.std.specs.List.{list_any, range_with_len}
use Rattle.aso_grid.specs.Grids.{is_there, value_at}
use Rattle.aso_grid.proofs.kept.is_column_filled.Given as goal

abbrev pub invariant-loop-row : goal.invariant-loop-row
invariant-loop-row l =
    list_any (λ row. is_there (value_at l.plan l.values row l.column)) (range_with_len l.row (length l.plan.rows.rows - l.row))
    ≡ list_any (λ row. is_there (value_at l.plan l.values row l.column)) (range_with_len 0 (length l.plan.rows.rows))
