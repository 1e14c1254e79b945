use Rattle.std.proofs.Common.{flat_map}
use Rattle.std.proofs.lemmas.Result.{err_from_is_err_and}
use Rattle.aso_outjson.specs.Formulas.{hier_formulas, whole}
use Rattle.aso_outjson.proofs.Drafts.{later, whole_spelled}
use Rattle.aso_outjson.proofs.formulas.dim.Goals as goal

pub returns-in_err-hiers-clause-refused : goal.returns-in_err-hiers-clause-refused
returns-in_err-hiers-clause-refused c =
    let hs = c.args.written.hiers in
    let p = err_from_is_err_and c.from_residual.result c.from_residual.ensures.1 in
    rw (p.1, p.2)
    (later (whole hs) (flat_map hier_formulas hs) c.args.number.now c.advance_whole.new.number c.in_err-hiers.field-0.0 (whole_spelled hs) c.advance_whole.ensures c.in_err-hiers.ensures.refused)
