use Rattle.std.proofs.Common.{◌≡◌, map, take}
use Rattle.aso_axes.specs.Sets.{member_at}
use Rattle.aso_axes.proofs.rows.members_at.Given as goal

abbrev pub invariant-loop-path : goal.invariant-loop-path
invariant-loop-path l = l.row.items ≡ map (member_at l.outline l.own) (take l.path-index l.paths)
