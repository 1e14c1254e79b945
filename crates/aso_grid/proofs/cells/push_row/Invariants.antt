use Rattle.std.proofs.Common.{◌≡◌, ◌++◌, take}
use Rattle.aso_grid.specs.Places.{tuples_of_row}
use Rattle.aso_grid.proofs.cells.push_row.Given as goal

abbrev pub invariant-loop-column : goal.invariant-loop-column
invariant-loop-column l = l.cells.items ≡ l.fn.cells.items ++ tuples_of_row l.places.base.items l.places.attrs.items (take l.column-index l.columns) l.slicer l.row
