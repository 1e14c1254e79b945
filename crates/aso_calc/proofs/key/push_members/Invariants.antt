use Rattle.std.proofs.Common.{◌≡◌, ◌++◌, take}
use Rattle.aso_calc.proofs.key.push_members.Given as goal

abbrev pub invariant-loop-member : goal.invariant-loop-member
invariant-loop-member l = l.key.items ≡ l.initial.key.items ++ take l.member-index l.members
