use Rattle.std.proofs.Common.{◌≡◌, drop}
use Rattle.std.specs.List.{list_all}
use Rattle.aso_rules.specs.Rules.{is_covered}
use Rattle.aso_rules.proofs.cover.all_covered.Given as goal

abbrev pub invariant-loop-column : goal.invariant-loop-column
invariant-loop-column l = list_all (is_covered l.outline l.shared) l.columns ≡ list_all (is_covered l.outline l.shared) (drop l.column-index l.columns)
