use Rattle.std.proofs.Common.{◌≡◌}
use Rattle.std.specs.List.{filter, range_with_len}
use Rattle.aso_outline.specs.Leaves.{is_data_place}
use Rattle.aso_outline.proofs.build.leaf_places.Given as goal

abbrev pub invariant-loop-place : goal.invariant-loop-place
invariant-loop-place l = l.leaves.items ≡ filter (is_data_place l.members) (range_with_len 0 l.place)
