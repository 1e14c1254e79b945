use Rattle.std.proofs.Common.{flat_map}
use Rattle.std.proofs.lemmas.Result.{err_from_is_err_and}
use Rattle.aso_outjson.specs.Formulas.{IsDim, attr_formulas, dim_formulas}
use Rattle.aso_outjson.proofs.Drafts.{dim_spelled, earlier, later, zip_spelled}
use Rattle.aso_outjson.proofs.formulas.draft.Goals as goal

pub returns-in_err-dims-clause-refused : goal.returns-in_err-dims-clause-refused
returns-in_err-dims-clause-refused c =
    let w = c.args.written in
    let p = err_from_is_err_and c.from_residual.result c.from_residual.ensures.1 in
    rw (p.1, p.2) (earlier (flat_map dim_formulas w.dims) (flat_map attr_formulas w.attrs) 0 c.in_err-dims.field-0.0 c.in_err-dims.ensures.refused)

pub returns-in_err-attrs-clause-refused : goal.returns-in_err-attrs-clause-refused
returns-in_err-attrs-clause-refused c =
    let w = c.args.written in
    let p = err_from_is_err_and c.from_residual-in_err-attrs.result c.from_residual-in_err-attrs.ensures.1 in
    rw (p.1, p.2)
    (later (flat_map dim_formulas w.dims) (flat_map attr_formulas w.attrs) 0 c.dims.new.number c.in_err-attrs.field-0.0
    (zip_spelled IsDim dim_formulas dim_spelled w.dims c.in_ok-dims.dims c.in_ok-dims.ensures.found) c.in_ok-dims.ensures.counted c.in_err-attrs.ensures.refused)
