use Rattle.std.proofs.Common.{◌≡◌, drop}
use Rattle.aso_load.specs.Records.{put_members}
use Rattle.aso_load.proofs.amounts.put_members.Given as goal

abbrev pub invariant-loop-m : goal.invariant-loop-m
invariant-loop-m l = put_members l.outline l.fn.leaves l.members ≡ put_members l.outline l.leaves (drop l.m-index l.members)
