use Rattle.std.specs.Prelude.{length}
use Rattle.aso_trials_parts.proofs.runs.+are_runs_small.Given as goal

abbrev pub decreases-are_runs_small : goal.decreases-are_runs_small
decreases-are_runs_small l = length l.runs.now
