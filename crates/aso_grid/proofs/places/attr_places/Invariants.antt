use Rattle.std.proofs.Common.{◌≡◌, map}
use Rattle.std.specs.List.{range_with_len}
use Rattle.aso_grid.specs.Places.{attr_place_of}
use Rattle.aso_grid.proofs.places.attr_places.Given as goal

abbrev pub invariant-loop-attr : goal.invariant-loop-attr
invariant-loop-attr l = l.places.items ≡ map (attr_place_of l.dims) (range_with_len 0 l.attr)
