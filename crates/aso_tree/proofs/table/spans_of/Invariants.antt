use Rattle.std.proofs.Common.{◌≡◌, map, length}
use Rattle.std.specs.List.{range_with_len}
use Rattle.aso_tree.specs.Trees.{under}
use Rattle.aso_tree.proofs.table.spans_of.Given as goal

abbrev pub invariant-loop-node : goal.invariant-loop-node
invariant-loop-node l = l.spans.items ≡ map (λ i. length (under l.parents i)) (range_with_len 0 l.node)
