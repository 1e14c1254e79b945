use Rattle.std.proofs.Common.{◌≡◌, ◌≤◌, ℕ, List, length}
use Rattle.std.specs.HashMap.{get_by_text}
use Rattle.std.specs.List.{filter, position, range_with_len}
use Rattle.aso_outline.specs.Leaves.{is_data_place}
use Rattle.aso_outline.specs.Members.{names_at, same_name}
use Rattle.aso_outline.proofs.sharers.leaf_names.Given as goal

abbrev pub invariant-loop-place : goal.invariant-loop-place
invariant-loop-place l = record {
  names : (q : List ℕ) → get_by_text l.names.map q ≡ position (same_name q) (names_at l.members (filter (is_data_place l.members) (range_with_len 0 l.place)));
  before : l.count ≡ length (filter (is_data_place l.members) (range_with_len 0 l.place));
  few : l.count ≤ l.place;
}
