use Rattle.std.proofs.Common.{◌≡◌, ◌+◌, drop}
use Rattle.aso_script.specs.Lines.{first_len}
use Rattle.aso_script.proofs.cutting.first_len.Given as goal

abbrev pub invariant-loop-i : goal.invariant-loop-i
invariant-loop-i l = l.i + first_len (drop l.i l.text) ≡ first_len l.text
