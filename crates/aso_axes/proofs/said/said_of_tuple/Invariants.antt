use Rattle.std.proofs.Common.{◌≡◌, ◌++◌, map, take}
use Rattle.aso_axes.specs.Sets.{dim_at}
use Rattle.aso_axes.proofs.said.said_of_tuple.Given as goal

abbrev pub invariant-loop-path : goal.invariant-loop-path
invariant-loop-path l = l.dims.items ≡ l.fn.dims.items ++ map (dim_at l.outline l.own) (take l.path-index l.paths)
