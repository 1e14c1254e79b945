use Rattle.std.proofs.Common.{◌≡◌, drop}
use Rattle.aso_token.specs.Lexing.{comment_span, comment_from, behind}
use Rattle.aso_token.proofs.front.comment_span.Given as goal

abbrev pub invariant-loop-i : goal.invariant-loop-i
invariant-loop-i l = comment_span l.text ≡ behind l.i (comment_from l.star (drop l.i l.text))
