use Rattle.aso_sums.specs.Summing.{AreSums}
use Rattle.aso_trials_queries.proofs.answers.stored.Given as goal

abbrev pub invariant-loop-cell : goal.invariant-loop-cell
invariant-loop-cell l = AreSums l.outline l.sums
