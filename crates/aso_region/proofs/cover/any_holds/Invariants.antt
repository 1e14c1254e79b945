use Rattle.std.proofs.Common.{◌≡◌, take, false}
use Rattle.std.specs.List.{list_all, list_any}
use Rattle.aso_region.specs.Kept.{holds_leaf}
use Rattle.aso_region.proofs.cover.any_holds.Given as goal

abbrev pub invariant-loop-row : goal.invariant-loop-row
invariant-loop-row l = list_any (list_all (holds_leaf l.tables l.leaves)) (take l.row-index l.rows) ≡ false
