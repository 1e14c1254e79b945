use Rattle.aso_token.proofs.Spans.{name_end}
use Rattle.aso_token.proofs.front.name_span.Goals as goal

pub returns-then-size-text-clause-ends : goal.returns-then-size-text-clause-ends
returns-then-size-text-clause-ends c = name_end c.args.text.now c.until-size.result c.until-size.ensures.value c.if-size-text.true
