use Rattle.std.proofs.Common.{◌≡◌, ◌≤◌, map, length}
use Rattle.std.specs.List.{filter, range_with_len}
use Rattle.aso_tree.specs.Levels.{is_class}
use Rattle.aso_tree.specs.Trees.{class_number}
use Rattle.aso_tree.proofs.level.level_of.Given as goal

abbrev pub invariant-loop-node : goal.invariant-loop-node
invariant-loop-node l = record {
  numbers : l.numbers.items ≡ map (class_number l.parents l.level) (range_with_len 0 l.node);
  count : l.count ≡ length (filter (is_class l.parents l.level) (range_with_len 0 l.node));
  bound : l.count ≤ l.node;
}
