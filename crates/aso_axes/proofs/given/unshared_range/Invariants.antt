use Rattle.std.proofs.Common.{◌≡◌, ◌-◌, map}
use Rattle.std.specs.List.{range_with_len}
use Rattle.aso_axes.specs.Members.{unshared}
use Rattle.aso_axes.proofs.given.unshared_range.Given as goal

abbrev pub invariant-loop-n : goal.invariant-loop-n
invariant-loop-n l = l.all.items ≡ map (unshared l.outline) (range_with_len l.from (l.n - l.from))
