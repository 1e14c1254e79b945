use Rattle.std.proofs.Common.{◌≡◌, take, true}
use Rattle.std.specs.List.{list_all}
use Rattle.aso_region.specs.Kept.{holds_leaf}
use Rattle.aso_region.proofs.cover.holds_leaves.Given as goal

abbrev pub invariant-loop-chosen : goal.invariant-loop-chosen
invariant-loop-chosen l = list_all (holds_leaf l.tables l.leaves) (take l.chosen-index l.row) ≡ true
