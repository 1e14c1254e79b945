use Rattle.std.proofs.Common.{◌≡◌, take}
use Rattle.std.specs.List.{filter}
use Rattle.aso_axes.specs.Members.{is_at_bottom}
use Rattle.aso_axes.proofs.given.at_bottom.Given as goal

abbrev pub invariant-loop-n : goal.invariant-loop-n
invariant-loop-n l = l.all.items ≡ filter (is_at_bottom l.outline) (take l.n-index l.members)
