use Rattle.aso_outjson.specs.Formulas.{IsAttr, attr_formulas}
use Rattle.aso_outjson.proofs.Drafts.{IsSoFar}
use Rattle.aso_outjson.proofs.formulas.attrs.Given as goal

abbrev pub invariant-loop-part : goal.invariant-loop-part
invariant-loop-part l = IsSoFar IsAttr attr_formulas l.fn.written l.part-iterator.rest.items l.made.items l.fn.number l.number
