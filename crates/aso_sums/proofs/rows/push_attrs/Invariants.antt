use Rattle.std.proofs.Common.{◌≡◌, ◌++◌}
use Rattle.std.specs.List.{filter_map, range_with_len}
use Rattle.aso_sums.specs.Stored.{attr_coordinate}
use Rattle.aso_sums.proofs.rows.push_attrs.Given as goal

abbrev pub invariant-loop-a : goal.invariant-loop-a
invariant-loop-a l = l.all.items ≡ l.initial.all.items ++ filter_map (attr_coordinate l.tuple) (range_with_len 0 l.a)
