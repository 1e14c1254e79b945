use Rattle.std.proofs.Common.{◌≡◌, ◌≤◌, map}
use Rattle.std.specs.List.{range_with_len}
use Rattle.aso_tree.specs.Trees.{greatest}
use Rattle.aso_outline.specs.Heights.{root_height}
use Rattle.aso_outline.proofs.outline.Outline.greatest_root.Given as goal

abbrev pub invariant-loop-hier : goal.invariant-loop-hier
invariant-loop-hier l = record {
  value : l.height ≡ greatest (map (root_height l.self l.dim) (range_with_len 0 l.hier));
  bound : l.height ≤ 31;
}
