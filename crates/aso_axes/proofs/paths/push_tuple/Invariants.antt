use Rattle.std.proofs.Common.{◌≡◌, ◌++◌, map, take}
use Rattle.aso_axes.proofs.paths.push_tuple.Given as goal

abbrev pub invariant-loop-path : goal.invariant-loop-path
invariant-loop-path l = map (λ a. a.now) l.all.items ≡ map (λ a. a.now) l.fn.all.items ++ take l.path-index l.paths
