use Rattle.std.proofs.Common.{◌≡◌, ◌++◌, map, take}
use Rattle.aso_grid.specs.Places.{member_if}
use Rattle.aso_grid.proofs.cells.attrs_of.Given as goal

abbrev pub invariant-loop-place : goal.invariant-loop-place
invariant-loop-place l = l.members.items ≡ map (member_if (l.column ++ (l.row ++ l.slicer))) (take l.place-index l.attrs)
