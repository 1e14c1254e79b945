use Rattle.std.proofs.Common.{◌≡◌, ◌∙◌, IfOk, subst, sym, ap}
use Rattle.std.specs.Prelude.{option_and_then}
use Rattle.std.specs.Option.{option_map}
use Rattle.serde_json.specs.View.{view}
use Rattle.aso_rules.specs.Json.{all_found, listed}
use Rattle.aso_rules.specs.Written.{column_of}
use Rattle.aso_rules.proofs.Founds.{found_items}
use Rattle.aso_rules.proofs.columns.list_of_columns.Goals as goal

pub returns-in-Some : goal.returns-in-Some
returns-in-Some c =
    subst (λ x. IfOk c.all_columns.result (λ ts. option_map (λ v. v.items) ts ≡ x))
    (sym (found_items column_of c.in-Some.values.now) ∙ ap (λ o. option_and_then (λ items. all_found column_of (listed items)) o) (rw c.in-Some.is at c.items.ensures))
    c.all_columns.ensures
