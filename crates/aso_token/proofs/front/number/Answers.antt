use Rattle.aso_token.proofs.Spans.{number_at}
use Rattle.aso_token.proofs.front.number.Goals as goal

pub first_bytes-requires : goal.first_bytes-requires
first_bytes-requires c = number_at c.args.text.now c.inner.result.now c.as_bytes.result.now c.number_len-size.result c.inner.utf8 c.inner.ensures c.as_bytes.ensures.value c.requires.some c.number_len-size.ensures.value

pub returns-clause-boundary : goal.returns-clause-boundary
returns-clause-boundary c = number_at c.args.text.now c.inner.result.now c.as_bytes.result.now c.number_len-size.result c.inner.utf8 c.inner.ensures c.as_bytes.ensures.value c.requires.some c.number_len-size.ensures.value
