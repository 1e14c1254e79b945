use Rattle.std.proofs.Common.{◌≡◌, ◌≤◌, length}
use Rattle.std.specs.List.{range_with_len, filter}
use Rattle.aso_outline.specs.Leaves.{is_data_place}
use Rattle.aso_outline.proofs.leaves.data_places.Given as goal

abbrev pub invariant-loop-place : goal.invariant-loop-place
invariant-loop-place l = record {
  value : l.count ≡ length (filter (is_data_place l.members) (range_with_len 0 l.place));
  bound : l.count ≤ l.place;
}
