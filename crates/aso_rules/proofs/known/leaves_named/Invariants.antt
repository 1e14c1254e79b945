use Rattle.std.proofs.Common.{◌≡◌, drop}
use Rattle.aso_rules.specs.Json.{all_found}
use Rattle.aso_rules.specs.Rules.{leaf_named}
use Rattle.aso_rules.proofs.Founds.{behind}
use Rattle.aso_rules.proofs.known.leaves_named.Given as goal

abbrev pub invariant-loop-name : goal.invariant-loop-name
invariant-loop-name l = all_found (leaf_named l.outline) l.names ≡ behind l.found.items (all_found (leaf_named l.outline) (drop l.name-index l.names))
