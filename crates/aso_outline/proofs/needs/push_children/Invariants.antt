use Rattle.std.proofs.Common.{◌≡◌, ◌++◌, map}
use Rattle.std.specs.List.{filter, range_with_len}
use Rattle.aso_outline.specs.Ranks.{is_child_place, number_in}
use Rattle.aso_outline.proofs.needs.push_children.Given as goal

abbrev pub invariant-loop-at : goal.invariant-loop-at
invariant-loop-at l = l.needs.items ≡ l.initial.needs.items ++ map (number_in l.number l.seat) (filter (is_child_place l.draft l.seat) (range_with_len 0 l.at))
