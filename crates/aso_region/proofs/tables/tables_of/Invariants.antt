use Rattle.std.proofs.Common.{◌≡◌, map}
use Rattle.std.specs.List.{range_with_len}
use Rattle.aso_region.specs.Kept.{tables_in}
use Rattle.aso_region.proofs.tables.tables_of.Given as goal

abbrev pub invariant-loop-dim : goal.invariant-loop-dim
invariant-loop-dim l = l.all.items ≡ map (tables_in l.outline l.rows) (range_with_len 0 l.dim)
