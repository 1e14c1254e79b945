use Rattle.std.proofs.Common.{◌≡◌, ◌++◌, map, take, codes}
use Rattle.std.specs.List.{flat_map}
use Rattle.aso_axes.specs.Members.{name_of}
use Rattle.aso_spec.specs.Grid.{shown}
use Rattle.aso_grid.proofs.labels.put_names.Given as goal

abbrev pub invariant-loop-n : goal.invariant-loop-n
invariant-loop-n l = l.out.items ≡ l.initial.out.items ++ flat_map (λ y. codes ", " ++ y) (map shown (map (name_of l.outline l.own) (take l.n-index l.more)))
