use Rattle.std.proofs.Common.{◌≡◌, map}
use Rattle.std.specs.HashMap.{get_by_text}
use Rattle.std.specs.List.{filter, range_with_len}
use Rattle.aso_outline.specs.Leaves.{is_data_place}
use Rattle.aso_outline.specs.Members.{names_at}
use Rattle.aso_outline.proofs.sharers.leaf_sharers.Given as goal

abbrev pub invariant-loop-place : goal.invariant-loop-place
invariant-loop-place l = l.found.items ≡ map (get_by_text l.names.map) (names_at l.members (filter (is_data_place l.members) (range_with_len 0 l.place)))
