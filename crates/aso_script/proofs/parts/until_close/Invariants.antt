use Rattle.std.proofs.Common.{◌≡◌, ◌+◌, drop}
use Rattle.aso_script.specs.Reading.{until_close}
use Rattle.aso_script.proofs.parts.until_close.Given as goal

abbrev pub invariant-loop-i : goal.invariant-loop-i
invariant-loop-i l = l.i + until_close (drop l.i l.text) ≡ until_close l.text
