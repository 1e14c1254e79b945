use Rattle.std.proofs.Common.{◌≡◌, map, take}
use Rattle.aso_axes.specs.Sets.{member_at}
use Rattle.aso_grid.proofs.planning.members_of.Given as goal

abbrev pub invariant-loop-path : goal.invariant-loop-path
invariant-loop-path l = l.members.items ≡ map (member_at l.outline l.own) (take l.path-index l.slicer)
