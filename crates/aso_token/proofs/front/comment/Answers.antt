use Rattle.aso_token.proofs.Spans.{comment_at}
use Rattle.aso_token.proofs.front.comment.Goals as goal

pub returns-clause-boundary : goal.returns-clause-boundary
returns-clause-boundary c = comment_at c.args.text.now c.inner.result.now c.inner-further.result.now c.as_bytes.result.now c.comment_span.result c.behind.result c.inner-further.utf8 c.inner.ensures c.inner-further.ensures c.as_bytes.ensures.value c.requires.some c.comment_span.ensures.ends c.behind.ensures
