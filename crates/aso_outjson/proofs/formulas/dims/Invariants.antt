use Rattle.aso_outjson.specs.Formulas.{IsDim, dim_formulas}
use Rattle.aso_outjson.proofs.Drafts.{IsSoFar}
use Rattle.aso_outjson.proofs.formulas.dims.Given as goal

abbrev pub invariant-loop-part : goal.invariant-loop-part
invariant-loop-part l = IsSoFar IsDim dim_formulas l.fn.written l.part-iterator.rest.items l.made.items l.fn.number l.number
