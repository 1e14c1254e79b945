use Rattle.std.proofs.Common.{◌≡◌, ◌≤◌, ◌-◌, length, drop}
use Rattle.aso_sheettext.specs.Lines.{lines_from}
use Rattle.aso_sheettext.proofs.line.Lines.next_line.Given as goal

abbrev pub invariant-loop-line : goal.invariant-loop-line
invariant-loop-line l = record {
  within : l.self.at ≤ length l.self.text.now;
  forth : l.initial.self.at ≤ l.self.at;
  same : l.self.text ≡ l.initial.self.text;
  passed : lines_from l.initial.self.at (drop l.initial.self.at l.initial.self.text.now) ≡ lines_from l.self.at (drop l.self.at l.initial.self.text.now);
}

abbrev pub decreases-loop-line : goal.decreases-loop-line
decreases-loop-line l = length l.self.text.now - l.self.at
