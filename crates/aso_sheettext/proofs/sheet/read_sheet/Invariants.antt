use Rattle.std.proofs.Common.{◌≡◌, ◌≤◌, ◌-◌, length}
use Rattle.aso_sheettext.specs.Reading.{sheet_with}
use Rattle.aso_sheettext.specs.Held.{sheet_so_far, sheet_start}
use Rattle.aso_sheettext.proofs.Runs.{IsReading}
use Rattle.aso_sheettext.proofs.Sheets.{IsSheetSoFar}
use Rattle.aso_sheettext.proofs.sheet.read_sheet.Given as goal

abbrev pub invariant-loop-line : goal.invariant-loop-line
invariant-loop-line l = record {
  within : l.lines.at ≤ length l.fn.text;
  same : l.lines.text.now ≡ l.fn.text;
  reading : IsReading sheet_with sheet_start IsSheetSoFar l.fn.text l.lines.at (sheet_so_far l.reading);
}

abbrev pub decreases-loop-line : goal.decreases-loop-line
decreases-loop-line l = length l.fn.text - l.lines.at
