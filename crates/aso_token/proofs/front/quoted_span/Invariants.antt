use Rattle.std.proofs.Common.{◌≡◌, ◌≤◌, ◌-◌, true, drop, get_or}
use Rattle.aso_token.specs.Lexing.{quoted_span, quoted_from, behind}
use Rattle.aso_token.proofs.front.quoted_span.Given as goal

abbrev pub invariant-loop-i : goal.invariant-loop-i
invariant-loop-i l = (quoted_span l.text ≡ behind l.i (quoted_from l.quote (drop l.i l.text))) × (l.quote ≡ true → (1 ≤ l.i) × (get_or l.text (l.i - 1) 0 ≡ 39))
