use Rattle.std.proofs.Common.{◌≡◌}
use Rattle.aso_rules.specs.Json.{all_found}
use Rattle.aso_rules.specs.Rules.{column_in}
use Rattle.aso_rules.proofs.Founds.{behind}
use Rattle.aso_rules.proofs.known.columns_in.Given as goal

abbrev pub invariant-loop-column : goal.invariant-loop-column
invariant-loop-column l = all_found (column_in l.outline) l.fn.columns.items ≡ behind l.found.items (all_found (column_in l.outline) l.column-iterator.rest.items)
