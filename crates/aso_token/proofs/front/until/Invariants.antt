use Rattle.std.proofs.Common.{◌≡◌, ◌+◌, drop}
use Rattle.aso_token.specs.Lexing.{until}
use Rattle.aso_token.proofs.front.until.Given as goal

abbrev pub invariant-loop-i : goal.invariant-loop-i
invariant-loop-i l = l.i + until l.end (drop l.i l.text) ≡ until l.end l.text
