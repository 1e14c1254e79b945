use Rattle.std.proofs.Common.{◌≡◌, ◌++◌, take, drop}
use Rattle.std.specs.List.{filter_map}
use Rattle.aso_rules.specs.Rules.{column_dim}
use Rattle.aso_rules.proofs.cover.column_dims.Given as goal

abbrev pub invariant-loop-column : goal.invariant-loop-column
invariant-loop-column l = filter_map column_dim l.columns ≡ l.dims.items ++ filter_map column_dim (drop l.column-index l.columns)
