use Rattle.std.proofs.Common.{◌∙◌, sym, ap}
use Rattle.aso_outline.specs.declared.draft.Expr.{Expr}
use Rattle.aso_calc.specs.Positions.{value_from}
use Rattle.aso_calc.proofs.FormulaSteps.{bin_value}
use Rattle.aso_calc.proofs.formula.+evaluate.Goals as goal

pub returns-in-Bin-clause-value : goal.returns-in-Bin-clause-value
returns-in-Bin-clause-value t c =
    let vs = c.args.values.now in
    bin_value c.in-Bin.op c.in-Bin.left c.in-Bin.right vs (c.evaluate-first.result.0, c.evaluate-first.result.1.now) (c.evaluate-second.result.0, c.evaluate-second.result.1.now) c.applied.result
    (c.evaluate-first.ensures.value ∙ ap (λ (e : Expr). value_from e vs) c.get-in-Bin.ensures)
    (c.evaluate-second.ensures.value ∙ ap (λ (e : Expr). value_from e c.evaluate-first.result.1.now) c.get-in-Bin-2.ensures)
    c.applied.ensures.value
    ∙ ap (λ (e : Expr). value_from e vs) (sym c.in-Bin.is)
