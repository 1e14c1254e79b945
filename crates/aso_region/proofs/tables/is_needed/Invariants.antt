use Rattle.std.proofs.Common.{◌≡◌, take, false}
use Rattle.std.specs.List.{list_any}
use Rattle.aso_region.specs.Kept.{goes_by}
use Rattle.aso_region.proofs.tables.is_needed.Given as goal

abbrev pub invariant-loop-row : goal.invariant-loop-row
invariant-loop-row l = list_any (list_any (goes_by l.dim l.hier)) (take l.row-index l.rows) ≡ false
