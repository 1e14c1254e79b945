use Rattle.std.proofs.Common.{◌≡◌, map, take}
use Rattle.aso_axes.specs.Members.{unshared}
use Rattle.aso_axes.proofs.given.unshared_all.Given as goal

abbrev pub invariant-loop-n : goal.invariant-loop-n
invariant-loop-n l = l.all.items ≡ map (unshared l.outline) (take l.n-index l.members)
