use Rattle.std.proofs.Common.{arith}
use Rattle.aso_token.proofs.Spans.{enclosed_at}
use Rattle.aso_token.proofs.front.quoted.Goals as goal

pub returns-clause-boundary : goal.returns-clause-boundary
returns-clause-boundary c = enclosed_at 39 c.args.text.now c.inner-inner.result.now c.as_bytes.result.now c.quoted_span-span.result c.behind.result (omega arith) c.inner-inner.utf8 c.inner-inner.ensures c.as_bytes.ensures.value c.requires.some c.quoted_span-span.ensures.ends c.behind.ensures
