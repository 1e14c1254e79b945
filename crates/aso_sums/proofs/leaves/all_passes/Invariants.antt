use Rattle.std.proofs.Common.{◌≡◌, map, take}
use Rattle.aso_sums.specs.Summing.{passes}
use Rattle.aso_sums.proofs.leaves.all_passes.Given as goal

abbrev pub invariant-loop-m : goal.invariant-loop-m
invariant-loop-m l = l.all.items ≡ map (passes l.outline l.leaves) (take l.m-index l.members)
