use Rattle.std.proofs.Common.{◌≡◌, ◌++◌, take}
use Rattle.aso_axes.specs.Sets.{crossed}
use Rattle.aso_axes.proofs.rows.push_crossed.Given as goal

abbrev pub invariant-loop-row : goal.invariant-loop-row
invariant-loop-row l = l.rows.items ≡ l.fn.rows.items ++ crossed (take l.row-index l.left) l.right
