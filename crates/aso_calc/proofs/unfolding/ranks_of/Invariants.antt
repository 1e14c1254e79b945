use Rattle.std.proofs.Common.{◌≡◌, ◌≤◌, ◌*◌, take}
use Rattle.aso_calc.specs.Values.{ranks_of}
use Rattle.aso_calc.proofs.unfolding.ranks_of.Given as goal

abbrev pub invariant-loop-member : goal.invariant-loop-member
invariant-loop-member l = record {
  value : l.ranks ≡ ranks_of l.outline l.extra.members.items (take l.member-index l.base);
  bound : l.ranks ≤ 65 * l.member-index;
}
