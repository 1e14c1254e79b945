use Rattle.std.proofs.Common.{◌≡◌, map, take}
use Rattle.aso_calc.specs.Values.{target}
use Rattle.aso_calc.proofs.operands.resolved.Given as goal

abbrev pub invariant-loop-member : goal.invariant-loop-member
invariant-loop-member l = l.all.items ≡ map (target l.outline) (take l.member-index l.base)
