use Rattle.std.proofs.Common.{◌≡◌, ◌++◌, map, take}
use Rattle.aso_axes.specs.Sets.{alone}
use Rattle.aso_axes.proofs.rows.push_each.Given as goal

abbrev pub invariant-loop-n : goal.invariant-loop-n
invariant-loop-n l = l.rows.items ≡ l.fn.rows.items ++ map alone (take l.n-index l.members)
