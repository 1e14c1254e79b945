use Rattle.std.proofs.Common.{◌≡◌}
use Rattle.aso_runs.specs.Runs.{Entries}
use Rattle.aso_cellfile.specs.Making.{Writes}
use Rattle.aso_trials_files.proofs.writing.written.Given as goal

abbrev pub invariant-loop-cell : goal.invariant-loop-cell
invariant-loop-cell g l = (l.writer.bits ≡ l.bits) × ((cells : Entries) × Writes g.row.W l.writer cells)
