use Rattle.std.proofs.Common.{◌∙◌, ℕ, Bool, length, sym, ap, arith}
use Rattle.aso_grid.specs.Grids.{is_there, value_at}
use Rattle.aso_grid.proofs.Turns.{any_later}
use Rattle.aso_grid.proofs.kept.is_row_filled.Goals as goal

pub loop-column-preserved : goal.loop-column-preserved
loop-column-preserved c =
    let p = c.args.plan.now in
    let f : ℕ → Bool = λ column. is_there (value_at p c.args.values.now c.args.row column) in
    any_later f c.loop-column.column (length p.columns.rows) (omega (arith, ap length c.items-column-end.ensures, c.loop-column-test.true)) (sym (c.is_there.ensures ∙ ap is_there c.value_at.ensures) ∙ c.if-is_there.false)
    ∙ c.loop-column.invariant
