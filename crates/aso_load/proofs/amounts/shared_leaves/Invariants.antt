use Rattle.std.proofs.Common.{◌≡◌, drop}
use Rattle.aso_load.specs.Records.{shared_leaves}
use Rattle.aso_load.proofs.amounts.shared_leaves.Given as goal

abbrev pub invariant-loop-field : goal.invariant-loop-field
invariant-loop-field l = shared_leaves l.fixed l.told ≡ shared_leaves l.leaves.items (drop l.field-index l.told)
