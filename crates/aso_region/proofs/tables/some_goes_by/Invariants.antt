use Rattle.std.proofs.Common.{◌≡◌, take, false}
use Rattle.std.specs.List.{list_any}
use Rattle.aso_region.specs.Kept.{goes_by}
use Rattle.aso_region.proofs.tables.some_goes_by.Given as goal

abbrev pub invariant-loop-chosen : goal.invariant-loop-chosen
invariant-loop-chosen l = list_any (goes_by l.dim l.hier) (take l.chosen-index l.row) ≡ false
