use Rattle.std.proofs.Common.{drop}
use Rattle.aso_keys.specs.Axes.{key_of}
use Rattle.aso_keys.proofs.KeyLemmas.{Made}
use Rattle.aso_keys.proofs.keys.key_in.Given as goal

abbrev pub invariant-loop-at : goal.invariant-loop-at
invariant-loop-at g l = Made (drop l.at l.axes) (drop l.at l.classes) (key_of l.axes l.classes) l.key
