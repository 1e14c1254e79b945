use Rattle.std.proofs.Common.{◌≡◌, ◌∙◌, IfOk, subst, sym, ap}
use Rattle.std.specs.Prelude.{option_and_then}
use Rattle.serde_json.specs.Find.{as_str}
use Rattle.serde_json.specs.View.{view}
use Rattle.aso_rules.specs.Json.{all_found, listed}
use Rattle.aso_rules.specs.Written.{texts_of}
use Rattle.aso_rules.proofs.Founds.{found_items}
use Rattle.aso_rules.proofs.texts.texts.Goals as goal

pub returns-in-Some : goal.returns-in-Some
returns-in-Some c =
    subst (λ x. IfOk c.all_texts.result (λ ts. ts ≡ x))
    (sym (found_items as_str c.in-Some.values.now) ∙ ap (λ o. option_and_then (λ items. all_found as_str (listed items)) o) (rw c.in-Some.is at c.items.ensures))
    c.all_texts.ensures
