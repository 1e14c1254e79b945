use Rattle.std.proofs.Common.{◌≡◌, ◌∷◌}
use Rattle.std.specs.List.{flat_map, range_with_len}
use Rattle.aso_keys.specs.Views.{hier_choices}
use Rattle.aso_keys.proofs.views.offered.Given as goal

abbrev pub invariant-loop-hier : goal.invariant-loop-hier
invariant-loop-hier l = l.offered.items ≡ (0, 0) ∷ flat_map (hier_choices l.outline l.dim) (range_with_len 0 l.hier)
