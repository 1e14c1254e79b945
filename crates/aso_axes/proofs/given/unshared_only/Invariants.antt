use Rattle.std.proofs.Common.{◌≡◌, ◌-◌}
use Rattle.std.specs.List.{filter, range_with_len}
use Rattle.aso_axes.specs.Members.{is_unshared}
use Rattle.aso_axes.proofs.given.unshared_only.Given as goal

abbrev pub invariant-loop-n : goal.invariant-loop-n
invariant-loop-n l = l.all.items ≡ filter (is_unshared l.outline) (range_with_len l.from (l.n - l.from))
