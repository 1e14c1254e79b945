use Rattle.std.proofs.Common.{◌≡◌, ◌+◌, ◌++◌, length, map}
use Rattle.aso_script.specs.Script.{script_lines, placed, lines_of}
use Rattle.aso_script.specs.Lines.{line}
use Rattle.aso_script.proofs.cutting.cut_lines.Given as goal

abbrev pub invariant-loop-rest : goal.invariant-loop-rest
invariant-loop-rest l = (script_lines l.fn.text ≡ map line l.lines.items ++ placed l.at (lines_of l.rest)) × (l.at + length l.rest ≡ length l.fn.text)

abbrev pub decreases-loop-rest : goal.decreases-loop-rest
decreases-loop-rest l = length l.rest
