use Rattle.std.proofs.Common.{◌≡◌, ◌∙◌, IfOk, subst, sym, ap}
use Rattle.std.specs.Prelude.{option_and_then}
use Rattle.serde_json.specs.View.{view}
use Rattle.aso_rules.specs.Json.{all_found, listed}
use Rattle.aso_rules.specs.Written.{pair_of}
use Rattle.aso_rules.proofs.Founds.{found_items}
use Rattle.aso_rules.proofs.texts.list_of_pairs.Goals as goal

pub returns-in-Some : goal.returns-in-Some
returns-in-Some c =
    subst (λ x. IfOk c.pairs.result (λ ts. ts ≡ x))
    (sym (found_items pair_of c.in-Some.values.now) ∙ ap (λ o. option_and_then (λ items. all_found pair_of (listed items)) o) (rw c.in-Some.is at c.items.ensures))
    c.pairs.ensures
