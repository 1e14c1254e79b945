use Rattle.std.proofs.Common.{arith, None, Some}
use Rattle.aso_token.specs.declared.token.Token.TheVariants.{Mark}
use Rattle.aso_token.proofs.Spans.{single_at}
use Rattle.aso_token.proofs.front.front_of.Goals as goal

pub returns-then-is_blank-clause-boundary : goal.returns-then-is_blank-clause-boundary
returns-then-is_blank-clause-boundary c = single_at c.args.text.now c.as_bytes-bytes.result.now None c.single.result c.utf8.text c.as_bytes-bytes.ensures.value (omega (arith, c.in-len1-up.len_at_least)) (omega (arith, c.if-first-ge128.false)) c.single.ensures

pub returns-in-Some-clause-boundary : goal.returns-in-Some-clause-boundary
returns-in-Some-clause-boundary c = single_at c.args.text.now c.as_bytes-bytes.result.now (Some (Mark c.in-Some.mark)) c.single-in-Some.result c.utf8.text c.as_bytes-bytes.ensures.value (omega (arith, c.in-len1-up.len_at_least)) (omega (arith, c.if-first-ge128.false)) c.single-in-Some.ensures
