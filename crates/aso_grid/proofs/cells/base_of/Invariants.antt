use Rattle.std.proofs.Common.{◌≡◌, ◌++◌, map, take}
use Rattle.aso_grid.specs.Places.{member_of}
use Rattle.aso_grid.proofs.cells.base_of.Given as goal

abbrev pub invariant-loop-place : goal.invariant-loop-place
invariant-loop-place l = l.members.items ≡ map (member_of (l.column ++ (l.row ++ l.slicer))) (take l.place-index l.base)
