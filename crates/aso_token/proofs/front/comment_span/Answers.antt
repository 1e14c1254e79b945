use Rattle.std.proofs.Common.{◌∙◌, sym, arith}
use Rattle.aso_token.proofs.Spans.{comment_step, comment_close, comment_last}
use Rattle.aso_token.proofs.front.comment_span.Goals as goal

pub returns-then-comment_ends-clause-value : goal.returns-then-comment_ends-clause-value
returns-then-comment_ends-clause-value c = sym (comment_close c.args.text.now c.loop-i.i c.loop-i.star c.loop-i-test.true (sym c.comment_ends.ensures ∙ c.if-comment_ends.true) c.loop-i.invariant)

pub loop-i-preserved : goal.loop-i-preserved
loop-i-preserved c = comment_step c.args.text.now c.loop-i.i c.loop-i.star c.loop-i-test.true (sym c.comment_ends.ensures ∙ c.if-comment_ends.false) c.loop-i.invariant

pub returns-clause-value : goal.returns-clause-value
returns-clause-value c = sym (comment_last c.args.text.now c.loop-i.i c.loop-i.star (omega (arith, c.loop-i-test.false, c.loop-i.auto.i-end)) c.loop-i.invariant)
