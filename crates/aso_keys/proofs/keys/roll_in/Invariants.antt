use Rattle.std.proofs.Common.{drop}
use Rattle.aso_keys.specs.Axes.{rolled}
use Rattle.aso_keys.proofs.KeyLemmas.{Rolling}
use Rattle.aso_keys.proofs.keys.roll_in.Given as goal

abbrev pub invariant-loop-at : goal.invariant-loop-at
invariant-loop-at g l = Rolling (drop l.at l.from) (drop l.at l.to) l.key l.rolled (rolled l.from l.to l.key)
