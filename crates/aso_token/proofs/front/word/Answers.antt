use Rattle.aso_token.proofs.Spans.{word_at}
use Rattle.aso_token.proofs.front.word.Goals as goal

pub first_bytes-requires : goal.first_bytes-requires
first_bytes-requires c = word_at c.args.text.now c.inner.result.now c.as_bytes.result.now c.word_len-size.result c.inner.utf8 c.inner.ensures c.as_bytes.ensures.value c.requires.some c.word_len-size.ensures.value

pub returns-clause-boundary : goal.returns-clause-boundary
returns-clause-boundary c = word_at c.args.text.now c.inner.result.now c.as_bytes.result.now c.word_len-size.result c.inner.utf8 c.inner.ensures c.as_bytes.ensures.value c.requires.some c.word_len-size.ensures.value
