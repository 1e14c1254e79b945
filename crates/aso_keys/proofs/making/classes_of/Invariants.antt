use Rattle.std.proofs.Common.{◌≡◌}
use Rattle.std.specs.Prelude.{map}
use Rattle.std.specs.List.{range_with_len}
use Rattle.aso_outline.specs.Classes.{class_at, classes_at}
use Rattle.aso_keys.specs.Axes.{AreBelow}
use Rattle.aso_keys.proofs.making.classes_of.Given as goal

abbrev pub invariant-loop-leaf : goal.invariant-loop-leaf
invariant-loop-leaf l = record {
  classes : l.classes.items ≡ map (class_at l.outline l.dim l.hier l.level) (range_with_len 0 l.leaf);
  below : AreBelow (classes_at l.outline l.dim l.hier l.level) l.classes.items;
}
