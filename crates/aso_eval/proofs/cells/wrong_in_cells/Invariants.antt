use Rattle.std.proofs.Common.{◌≡◌, drop, map}
use Rattle.aso_sheettext.specs.Texts.{cell}
use Rattle.aso_eval.specs.Sheets.{wrong_in_cells}
use Rattle.aso_eval.proofs.cells.wrong_in_cells.Given as goal

abbrev pub invariant-loop-cell : goal.invariant-loop-cell
invariant-loop-cell l = wrong_in_cells l.outline (map cell (drop l.cell-index l.cells)) ≡ wrong_in_cells l.outline (map cell l.cells)
