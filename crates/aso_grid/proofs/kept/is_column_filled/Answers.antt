use Rattle.std.proofs.Common.{◌∙◌, ℕ, Bool, length, sym, ap, arith}
use Rattle.aso_grid.specs.Grids.{is_there, value_at}
use Rattle.aso_grid.proofs.Turns.{any_later}
use Rattle.aso_grid.proofs.kept.is_column_filled.Goals as goal

pub loop-row-preserved : goal.loop-row-preserved
loop-row-preserved c =
    let p = c.args.plan.now in
    let f : ℕ → Bool = λ row. is_there (value_at p c.args.values.now row c.args.column) in
    any_later f c.loop-row.row (length p.rows.rows) (omega (arith, ap length c.items-row-end.ensures, c.loop-row-test.true)) (sym (c.is_there.ensures ∙ ap is_there c.value_at.ensures) ∙ c.if-is_there.false)
    ∙ c.loop-row.invariant
