use Rattle.std.proofs.Common.{false, ap, subst, arith, length}
use Rattle.aso_token.specs.declared.stop.Stop.{Stop}
use Rattle.aso_token.specs.Reads.{tokens_of, FaultIn}
use Rattle.aso_token.proofs.Texts.{text_spelled, text_short, text_faulty, text_none, rest_within}
use Rattle.aso_formula.specs.Formula.{Formula}
use Rattle.aso_formula.proofs.Answered.{one_formula}
use Rattle.aso_formula.proofs.text.parse_cut.Goals as goal

pub returns-then-text_cut-clause-found : goal.returns-then-text_cut-clause-found
returns-then-text_cut-clause-found c = text_spelled false Formula c.args._text.now c.args.text_cut.now c.items.result.now c.in-Ok.formula c.requires c.items.ensures c.if-text_cut.true c.in-Ok.ensures.found

pub returns-then-text_cut-clause-only : goal.returns-then-text_cut-clause-only
returns-then-text_cut-clause-only c e s = one_formula c.args._text.now c.in-Ok.formula e (text_spelled false Formula c.args._text.now c.args.text_cut.now c.items.result.now c.in-Ok.formula c.requires c.items.ensures c.if-text_cut.true c.in-Ok.ensures.found) s

pub returns-else-text_cut-clause-fault : goal.returns-else-text_cut-clause-fault
returns-else-text_cut-clause-fault c = text_short false Formula c.args._text.now c.args.text_cut.now c.items.result.now c.in-Ok.formula c.requires c.items.ensures c.if-text_cut.false c.in-Ok.ensures.found

pub start-requires : goal.start-requires
start-requires c = omega (arith, rest_within Formula c.items.result.now c.in-Err-At.rest.now (subst (λ (s : Stop). FaultIn Formula (tokens_of c.items.result.now) s) c.in-Err-At.field-0-is c.in-Err-At.ensures.fault), ap length c.items.ensures)

pub returns-in-Err-At-clause-only : goal.returns-in-Err-At-clause-only
returns-in-Err-At-clause-only c = text_none false Formula c.args._text.now c.args.text_cut.now c.items.result.now c.in-Err-At.rest.now c.requires c.items.ensures (subst (λ (s : Stop). FaultIn Formula (tokens_of c.items.result.now) s) c.in-Err-At.field-0-is c.in-Err-At.ensures.fault)

pub returns-in-Err-At-clause-fault : goal.returns-in-Err-At-clause-fault
returns-in-Err-At-clause-fault c = text_faulty false Formula c.args._text.now c.args.text_cut.now c.items.result.now c.in-Err-At.rest.now c.start.result c.requires c.items.ensures (subst (λ (s : Stop). FaultIn Formula (tokens_of c.items.result.now) s) c.in-Err-At.field-0-is c.in-Err-At.ensures.fault) c.start.ensures
