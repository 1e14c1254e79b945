use Rattle.std.proofs.Common.{◌≡◌, ◌≤◌, map, length}
use Rattle.std.specs.List.{filter, range_with_len}
use Rattle.aso_outline.specs.Leaves.{is_data_place, leaves_before}
use Rattle.aso_outline.proofs.build.leaf_counts.Given as goal

abbrev pub invariant-loop-place : goal.invariant-loop-place
invariant-loop-place l = record {
  counts : l.counts.items ≡ map (leaves_before l.members) (range_with_len 0 l.place);
  before : l.count ≡ length (filter (is_data_place l.members) (range_with_len 0 l.place));
  few : l.count ≤ l.place;
}
