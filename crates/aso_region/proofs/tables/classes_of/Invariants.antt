use Rattle.std.proofs.Common.{◌≡◌, map}
use Rattle.std.specs.List.{range_with_len}
use Rattle.aso_outline.specs.Classes.{class_at}
use Rattle.aso_region.proofs.tables.classes_of.Given as goal

abbrev pub invariant-loop-leaf : goal.invariant-loop-leaf
invariant-loop-leaf l = l.all.items ≡ map (class_at l.outline l.dim l.hier 1) (range_with_len 0 l.leaf)
