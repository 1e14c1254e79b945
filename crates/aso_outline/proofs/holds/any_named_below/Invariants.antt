use Rattle.std.proofs.Common.{◌≡◌, false}
use Rattle.std.specs.List.{filter, list_any, range_with_len}
use Rattle.aso_tree.specs.Trees.{is_under}
use Rattle.aso_outline.specs.Members.{names_at, parents_of, same_name}
use Rattle.aso_outline.proofs.holds.any_named_below.Given as goal

abbrev pub invariant-loop-place : goal.invariant-loop-place
invariant-loop-place l = list_any (same_name l.name) (names_at l.members (filter (is_under (parents_of l.members) l.top) (range_with_len 0 l.place))) ≡ false
