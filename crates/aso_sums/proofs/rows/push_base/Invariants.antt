use Rattle.std.proofs.Common.{◌≡◌, ◌++◌, map}
use Rattle.std.specs.List.{range_with_len}
use Rattle.aso_sums.specs.Stored.{base_coordinate}
use Rattle.aso_sums.proofs.rows.push_base.Given as goal

abbrev pub invariant-loop-d : goal.invariant-loop-d
invariant-loop-d l = l.all.items ≡ l.initial.all.items ++ map (base_coordinate l.tuple) (range_with_len 0 l.d)
