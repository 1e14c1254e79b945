use Rattle.std.proofs.Common.{true, ap, subst, arith, length}
use Rattle.aso_token.specs.declared.stop.Stop.{Stop}
use Rattle.aso_token.specs.Reads.{tokens_of, FaultIn}
use Rattle.aso_token.proofs.Texts.{text_spelled, text_short, text_faulty, text_none, rest_within}
use Rattle.aso_mdx.specs.Grammar.{QueryTokens}
use Rattle.aso_mdx.proofs.Answered.{one_query}
use Rattle.aso_mdx.proofs.query_text.read.Goals as goal

pub returns-in_err-cut-clause-one_value : goal.returns-in_err-cut-clause-one_value
returns-in_err-cut-clause-one_value c = one_query c.args.text.now

pub returns-then-cut-clause-found : goal.returns-then-cut-clause-found
returns-then-cut-clause-found c = text_spelled true QueryTokens c.args.text.now c.in_ok-cut.cut c.items.result.now c.in-Ok.query c.in_ok-cut.ensures c.items.ensures c.if-cut.true c.in-Ok.ensures.found

pub returns-then-cut-clause-only : goal.returns-then-cut-clause-only
returns-then-cut-clause-only c e s = one_query c.args.text.now c.in-Ok.query e (text_spelled true QueryTokens c.args.text.now c.in_ok-cut.cut c.items.result.now c.in-Ok.query c.in_ok-cut.ensures c.items.ensures c.if-cut.true c.in-Ok.ensures.found) s

pub returns-then-cut-clause-one_value : goal.returns-then-cut-clause-one_value
returns-then-cut-clause-one_value c = one_query c.args.text.now

pub returns-in-Ok-clause-fault : goal.returns-in-Ok-clause-fault
returns-in-Ok-clause-fault c = text_short true QueryTokens c.args.text.now c.in_ok-cut.cut c.items.result.now c.in-Ok.query c.in_ok-cut.ensures c.items.ensures c.if-cut.false c.in-Ok.ensures.found

pub start-requires : goal.start-requires
start-requires c = omega (arith, rest_within QueryTokens c.items.result.now c.in-Err-At.rest.now (subst (λ (s : Stop). FaultIn QueryTokens (tokens_of c.items.result.now) s) c.in-Err-At.field-0-is c.in-Err-At.ensures.fault), ap length c.items.ensures)

pub returns-in-Err-At-clause-only : goal.returns-in-Err-At-clause-only
returns-in-Err-At-clause-only c = text_none true QueryTokens c.args.text.now c.in_ok-cut.cut c.items.result.now c.in-Err-At.rest.now c.in_ok-cut.ensures c.items.ensures (subst (λ (s : Stop). FaultIn QueryTokens (tokens_of c.items.result.now) s) c.in-Err-At.field-0-is c.in-Err-At.ensures.fault)

pub returns-in-Err-At-clause-fault : goal.returns-in-Err-At-clause-fault
returns-in-Err-At-clause-fault c = text_faulty true QueryTokens c.args.text.now c.in_ok-cut.cut c.items.result.now c.in-Err-At.rest.now c.start.result c.in_ok-cut.ensures c.items.ensures (subst (λ (s : Stop). FaultIn QueryTokens (tokens_of c.items.result.now) s) c.in-Err-At.field-0-is c.in-Err-At.ensures.fault) c.start.ensures

pub returns-in-Err-At-clause-one_value : goal.returns-in-Err-At-clause-one_value
returns-in-Err-At-clause-one_value c = one_query c.args.text.now

pub returns-clause-one_value : goal.returns-clause-one_value
returns-clause-one_value c = one_query c.args.text.now
