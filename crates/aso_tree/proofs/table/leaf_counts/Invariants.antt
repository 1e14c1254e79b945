use Rattle.std.proofs.Common.{◌≡◌, ◌≤◌, ◌+◌, map}
use Rattle.std.specs.List.{range_with_len}
use Rattle.aso_tree.specs.Trees.{leaves_before}
use Rattle.aso_tree.proofs.table.leaf_counts.Given as goal

abbrev pub invariant-loop-node : goal.invariant-loop-node
invariant-loop-node l = record {
  counts : l.counts.items ≡ map (leaves_before l.parents) (range_with_len 0 (l.node + 1));
  count : l.count ≡ leaves_before l.parents l.node;
  bound : l.count ≤ l.node;
}
