use Rattle.std.proofs.Common.{◌≡◌, drop}
use Rattle.serde_json.specs.Find.{as_str}
use Rattle.serde_json.specs.View.{view}
use Rattle.aso_rules.specs.Json.{all_found}
use Rattle.aso_rules.proofs.Founds.{behind}
use Rattle.aso_rules.proofs.texts.all_texts.Given as goal

abbrev pub invariant-loop-value : goal.invariant-loop-value
invariant-loop-value l = all_found (λ v. as_str (view v)) l.values ≡ behind l.found.items (all_found (λ v. as_str (view v)) (drop l.value-index l.values))
