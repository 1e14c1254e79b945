use Rattle.std.proofs.Common.{◌≡◌, ◌++◌, take}
use Rattle.std.specs.List.{flat_map}
use Rattle.aso_axes.specs.Sets.{rows_of}
use Rattle.aso_axes.proofs.rows.+rows.Given as goal

abbrev pub invariant-push_items-loop-item : goal.invariant-push_items-loop-item
invariant-push_items-loop-item l = l.rows.items ≡ l.initial.rows.items ++ flat_map (rows_of l.outline l.own) (take l.item-index l.items)
