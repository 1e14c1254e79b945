use Rattle.aso_load.specs.Leaves.{StandAtLeaves}
use Rattle.aso_trials_loads.proofs.loads.told.Given as goal

abbrev pub invariant-loop-file : goal.invariant-loop-file
invariant-loop-file l = StandAtLeaves l.outline l.buffer.records
