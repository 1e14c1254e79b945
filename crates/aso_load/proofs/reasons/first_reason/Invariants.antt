use Rattle.std.proofs.Common.{◌≡◌, drop}
use Rattle.aso_load.specs.Records.{first_reason, lesser}
use Rattle.aso_load.proofs.reasons.first_reason.Given as goal

abbrev pub invariant-loop-field : goal.invariant-loop-field
invariant-loop-field l = first_reason l.told ≡ lesser l.reason (first_reason (drop l.field-index l.told))
