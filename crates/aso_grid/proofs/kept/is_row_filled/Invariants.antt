use Rattle.std.proofs.Common.{◌≡◌, ◌-◌, length}
use Rattle.std.specs.List.{list_any, range_with_len}
use Rattle.aso_grid.specs.Grids.{is_there, value_at}
use Rattle.aso_grid.proofs.kept.is_row_filled.Given as goal

abbrev pub invariant-loop-column : goal.invariant-loop-column
invariant-loop-column l =
    list_any (λ column. is_there (value_at l.plan l.values l.row column)) (range_with_len l.column (length l.plan.columns.rows - l.column))
    ≡ list_any (λ column. is_there (value_at l.plan l.values l.row column)) (range_with_len 0 (length l.plan.columns.rows))
