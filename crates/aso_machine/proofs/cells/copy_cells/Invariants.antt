use Rattle.std.proofs.Common.{◌≡◌, ◌++◌, take}
use Rattle.aso_machine.proofs.cells.copy_cells.Given as goal

abbrev pub invariant-loop-cell : goal.invariant-loop-cell
invariant-loop-cell l = l.out.items ≡ l.initial.out.items ++ take l.cell-index l.cells
