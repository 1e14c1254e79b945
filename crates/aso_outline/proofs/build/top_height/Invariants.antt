use Rattle.std.proofs.Common.{◌≡◌, map, not}
use Rattle.std.specs.List.{filter, range_with_len}
use Rattle.aso_tree.specs.Trees.{greatest, height}
use Rattle.aso_outline.specs.Members.{member_is, parents_of}
use Rattle.aso_outline.proofs.build.top_height.Given as goal

abbrev pub invariant-loop-place : goal.invariant-loop-place
invariant-loop-place l = l.top ≡ greatest (map (height (parents_of l.members)) (filter (member_is (λ m. not m.label_only) l.members) (range_with_len 0 l.place)))
