use Rattle.std.proofs.Common.{◌≡◌, map, take}
use Rattle.aso_sheettext.specs.Texts.{cell}
use Rattle.aso_eval.specs.Entries.{AreAtLeaves, cells_in}
use Rattle.aso_eval.specs.Sheets.{cells_of}
use Rattle.aso_eval.proofs.cells.sums_of.Given as goal

abbrev pub invariant-loop-line : goal.invariant-loop-line
invariant-loop-line l = record {
  cells : cells_in l.cells.entries ≡ cells_of l.outline (map cell (take l.line-index l.lines));
  leaves : AreAtLeaves l.outline (cells_in l.cells.entries);
}
