use Rattle.std.proofs.Common.{◌≡◌, ◌++◌, take}
use Rattle.aso_rules.specs.Rules.{dims_of}
use Rattle.aso_rules.proofs.cover.push_dims.Given as goal

abbrev pub invariant-loop-m : goal.invariant-loop-m
invariant-loop-m l = l.dims.items ≡ l.fn.dims.items ++ dims_of l.outline (take l.m-index l.members)
