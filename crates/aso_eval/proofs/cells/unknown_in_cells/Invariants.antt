use Rattle.std.proofs.Common.{◌≡◌, drop, map}
use Rattle.aso_sheettext.specs.Texts.{cell}
use Rattle.aso_eval.specs.Sheets.{unknown_in_cells}
use Rattle.aso_eval.proofs.cells.unknown_in_cells.Given as goal

abbrev pub invariant-loop-cell : goal.invariant-loop-cell
invariant-loop-cell l = unknown_in_cells l.outline (map cell (drop l.cell-index l.cells)) ≡ unknown_in_cells l.outline (map cell l.cells)
