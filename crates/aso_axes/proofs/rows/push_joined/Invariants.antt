use Rattle.std.proofs.Common.{◌≡◌, ◌++◌, map, take, List, ℕ}
use Rattle.aso_axes.proofs.rows.push_joined.Given as goal

abbrev pub invariant-loop-row : goal.invariant-loop-row
invariant-loop-row l = l.rows.items ≡ l.fn.rows.items ++ map (λ (y : List ℕ). l.left ++ y) (take l.row-index l.right)
