use Rattle.std.proofs.Common.{◌≡◌, drop}
use Rattle.aso_eval.specs.Entries.{cells_in}
use Rattle.aso_eval.specs.Sheets.{past}
use Rattle.aso_eval.proofs.cells.past.Given as goal

abbrev pub invariant-loop-cell : goal.invariant-loop-cell
invariant-loop-cell l = past (cells_in (drop l.cell-index l.cells)) ≡ past (cells_in l.cells)
