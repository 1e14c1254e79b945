use Rattle.std.proofs.Common.{◌≡◌, map}
use Rattle.std.specs.List.{range_with_len}
use Rattle.aso_grid.specs.Places.{base_place_of}
use Rattle.aso_grid.proofs.places.base_places.Given as goal

abbrev pub invariant-loop-dim : goal.invariant-loop-dim
invariant-loop-dim l = l.places.items ≡ map (base_place_of l.outline l.dims) (range_with_len 0 l.dim)
