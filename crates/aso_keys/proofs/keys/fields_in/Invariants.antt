use Rattle.std.proofs.Common.{◌≡◌, take}
use Rattle.aso_keys.specs.Axes.{fields_of}
use Rattle.aso_keys.proofs.keys.fields_in.Given as goal

abbrev pub invariant-loop-at : goal.invariant-loop-at
invariant-loop-at g l = take l.at l.into ≡ take l.at (fields_of l.axes l.key)
