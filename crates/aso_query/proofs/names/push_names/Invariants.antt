use Rattle.std.proofs.Common.{◌≡◌, ◌++◌, map, take}
use Rattle.aso_axes.specs.Members.{name_of}
use Rattle.aso_query.proofs.names.push_names.Given as goal

abbrev pub invariant-loop-n : goal.invariant-loop-n
invariant-loop-n l = l.names.items ≡ l.fn.names.items ++ map (name_of l.outline l.own) (take l.n-index l.members)
