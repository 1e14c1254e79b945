use Rattle.std.proofs.Common.{arith}
use Rattle.aso_token.proofs.Spans.{enclosed_at}
use Rattle.aso_token.proofs.front.name.Goals as goal

pub returns-clause-boundary : goal.returns-clause-boundary
returns-clause-boundary c = enclosed_at 93 c.args.text.now c.inner-inner.result.now c.as_bytes.result.now c.name_span-span.result c.behind.result (omega arith) c.inner-inner.utf8 c.inner-inner.ensures c.as_bytes.ensures.value c.requires.some c.name_span-span.ensures.ends c.behind.ensures
