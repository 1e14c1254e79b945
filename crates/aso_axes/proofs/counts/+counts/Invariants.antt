use Rattle.std.proofs.Common.{◌≡◌, take, length}
use Rattle.std.specs.List.{flat_map}
use Rattle.aso_axes.specs.Answers.{counted}
use Rattle.aso_axes.specs.Sets.{rows_of}
use Rattle.aso_axes.proofs.counts.+counts.Given as goal

abbrev pub invariant-count_items-loop-item : goal.invariant-count_items-loop-item
invariant-count_items-loop-item l = l.count ≡ counted (length (flat_map (rows_of l.outline l.own) (take l.item-index l.items)))
