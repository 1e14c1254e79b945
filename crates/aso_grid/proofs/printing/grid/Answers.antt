use Rattle.std.proofs.Common.{ap, arith, length}
use Rattle.aso_grid.specs.Grids.{is_column_kept, is_row_kept}
use Rattle.aso_grid.proofs.LineLemmas.{few_kept}
use Rattle.aso_grid.proofs.printing.grid.Goals as goal

pub overflow_cast-result : goal.overflow_cast-result
overflow_cast-result c =
    let p = c.args.plan.now in
    omega (arith, few_kept (is_row_kept p c.args.values.now) p.rows.rows, c.requires.sized.few_rows, ap length c.in_ok-rows.ensures, c.len.ensures)

pub overflow_cast-result-2 : goal.overflow_cast-result-2
overflow_cast-result-2 c =
    let p = c.args.plan.now in
    omega (arith, few_kept (is_column_kept p c.args.values.now) p.columns.rows, c.requires.sized.few_columns, ap length c.in_ok-columns.ensures, c.len-2.ensures)
