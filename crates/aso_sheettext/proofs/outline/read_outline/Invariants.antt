use Rattle.std.proofs.Common.{◌≡◌, ◌≤◌, ◌-◌, length}
use Rattle.aso_sheettext.specs.Reading.{outline_with}
use Rattle.aso_sheettext.specs.Held.{outline_so_far, outline_start}
use Rattle.aso_sheettext.proofs.Runs.{IsReading}
use Rattle.aso_sheettext.proofs.Outlines.{IsOutlineSoFar}
use Rattle.aso_sheettext.proofs.outline.read_outline.Given as goal

abbrev pub invariant-loop-line : goal.invariant-loop-line
invariant-loop-line l = record {
  within : l.lines.at ≤ length l.fn.text;
  same : l.lines.text.now ≡ l.fn.text;
  reading : IsReading outline_with outline_start IsOutlineSoFar l.fn.text l.lines.at (outline_so_far l.reading);
}

abbrev pub decreases-loop-line : goal.decreases-loop-line
decreases-loop-line l = length l.fn.text - l.lines.at
