use Rattle.std.proofs.Common.{◌<◌, ◌≤◌, ℕ}
use Rattle.aso_tree.specs.Trees.{height}
use Rattle.aso_tree.proofs.level.classes_before.Given as goal

abbrev pub invariant-loop-node : goal.invariant-loop-node
invariant-loop-node l = (k : ℕ) → l.place ≤ k → k < l.node → l.level < height l.parents k
