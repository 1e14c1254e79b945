use Rattle.std.proofs.Common.{◌≡◌, ◌++◌, map, take, codes}
use Rattle.std.specs.List.{flat_map}
use Rattle.aso_cellnames.specs.Names.{texts}
use Rattle.aso_spec.specs.Grid.{shown}
use Rattle.aso_cellnames.proofs.labels.put_label.Given as goal

abbrev pub invariant-loop-name : goal.invariant-loop-name
invariant-loop-name l = l.out.items ≡ l.initial.out.items ++ flat_map (λ y. codes ", " ++ y) (map shown (texts (take l.name-index l.more)))
