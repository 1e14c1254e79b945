use Rattle.std.proofs.Common.{◌≡◌, ◌+◌, drop}
use Rattle.aso_script.specs.Reading.{word_len}
use Rattle.aso_script.proofs.parts.word_len.Given as goal

abbrev pub invariant-loop-i : goal.invariant-loop-i
invariant-loop-i l = l.i + word_len (drop l.i l.text) ≡ word_len l.text
