use Rattle.std.proofs.Common.{◌≡◌, map}
use Rattle.std.specs.List.{range_with_len}
use Rattle.aso_region.specs.Kept.{table_of}
use Rattle.aso_region.proofs.tables.tables_in.Given as goal

abbrev pub invariant-loop-hier : goal.invariant-loop-hier
invariant-loop-hier l = l.all.items ≡ map (table_of l.outline l.rows l.dim) (range_with_len 0 l.hier)
