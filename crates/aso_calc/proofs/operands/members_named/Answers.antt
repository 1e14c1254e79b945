use Rattle.std.proofs.Common.{◌∙◌, ◌++◌, [], List, ℕ, Option, take, sym, ap}
use Rattle.std.specs.List.{cons_option, filter_map}
use Rattle.aso_outline.specs.Members.{find}
use Rattle.aso_outline.proofs.ByName.{found_more}
use Rattle.aso_calc.proofs.operands.members_named.Goals as goal

pub loop-name-preserved : goal.loop-name-preserved
loop-name-preserved c =
    let o = c.args.outline.now in
    let ws = c.args.names.now in
    let i = c.loop-name.name-index in
    c.in_ok-push_found.ensures
    ∙ (ap (λ (xs : List ℕ). xs ++ cons_option c.find.result []) c.loop-name.invariant
    ∙ (ap (λ (r : Option ℕ). filter_map (find o) (take i ws) ++ cons_option r []) (c.find.ensures ∙ ap (find o) c.as_str.ensures) ∙ sym (found_more (find o) ws i c.name-item.result c.loop-name-test.true (sym c.name-item.is))))
