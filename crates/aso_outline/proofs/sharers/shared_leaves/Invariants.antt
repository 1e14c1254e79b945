use Rattle.std.proofs.Common.{◌≡◌, map}
use Rattle.std.specs.HashMap.{get_by_text}
use Rattle.std.specs.List.{range_with_len}
use Rattle.aso_outline.specs.Leaves.{shared_in}
use Rattle.aso_outline.proofs.sharers.shared_leaves.Given as goal

abbrev pub invariant-loop-place : goal.invariant-loop-place
invariant-loop-place l = l.found.items ≡ map (shared_in (get_by_text l.names.map) l.members) (range_with_len 0 l.place)
