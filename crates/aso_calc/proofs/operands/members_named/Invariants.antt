use Rattle.std.proofs.Common.{◌≡◌, take}
use Rattle.std.specs.List.{filter_map}
use Rattle.aso_outline.specs.Members.{find}
use Rattle.aso_calc.proofs.operands.members_named.Given as goal

abbrev pub invariant-loop-name : goal.invariant-loop-name
invariant-loop-name l = l.all.items ≡ filter_map (find l.outline) (take l.name-index l.names)
