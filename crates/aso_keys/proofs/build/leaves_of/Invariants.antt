use Rattle.aso_keys.proofs.BuildLemmas.{Given}
use Rattle.aso_keys.proofs.build.leaves_of.Given as goal

abbrev pub invariant-loop-leaf : goal.invariant-loop-leaf
invariant-loop-leaf l = Given l.count l.classes l.leaves.items l.leaf
