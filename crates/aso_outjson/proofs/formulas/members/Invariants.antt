use Rattle.aso_outjson.specs.Formulas.{IsMember, formula_of}
use Rattle.aso_outjson.proofs.Drafts.{IsSoFar}
use Rattle.aso_outjson.proofs.formulas.members.Given as goal

abbrev pub invariant-loop-part : goal.invariant-loop-part
invariant-loop-part l = IsSoFar IsMember formula_of l.fn.written.members l.part-iterator.rest.items l.made.items l.fn.number l.number
