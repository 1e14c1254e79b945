use Rattle.std.specs.Prelude.{length}
use Rattle.aso_trials_parts.proofs.runs.+are_small.Given as goal

abbrev pub decreases-are_small : goal.decreases-are_small
decreases-are_small l = length l.cells.now
