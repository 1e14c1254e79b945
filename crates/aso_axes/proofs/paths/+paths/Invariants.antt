use Rattle.std.proofs.Common.{◌≡◌, ◌++◌, map, take}
use Rattle.std.specs.List.{flat_map}
use Rattle.aso_axes.specs.Sets.{paths_of}
use Rattle.aso_axes.proofs.paths.+paths.Given as goal

abbrev pub invariant-push_items-loop-item : goal.invariant-push_items-loop-item
invariant-push_items-loop-item l = map (λ a. a.now) l.all.items ≡ map (λ a. a.now) l.initial.all.items ++ flat_map paths_of (take l.item-index l.items)
