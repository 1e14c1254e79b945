use Rattle.std.proofs.Common.{◌≡◌, take}
use Rattle.std.specs.List.{flat_map}
use Rattle.aso_grid.specs.Places.{tuples_of_row}
use Rattle.aso_grid.proofs.cells.cells_at.Given as goal

abbrev pub invariant-loop-row : goal.invariant-loop-row
invariant-loop-row l = l.cells.items ≡ flat_map (tuples_of_row l.places.base.items l.places.attrs.items l.columns l.slicer) (take l.row-index l.rows)
