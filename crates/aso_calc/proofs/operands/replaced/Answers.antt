use Rattle.std.proofs.Common.{◌≡◌, ◌∙◌, ◌++◌, ◌∷◌, [], List, ℕ, None, map, sym, ap}
use Rattle.std.specs.Prelude.{slice_index, unwrap_or}
use Rattle.std.specs.List.{filter, last_or, range_with_len}
use Rattle.aso_tree.proofs.Paths.{map_push}
use Rattle.aso_outline.specs.Ranks.{at_number, is_of_dim}
use Rattle.aso_calc.specs.Values.{operand_at}
use Rattle.aso_calc.proofs.operands.replaced.Goals as goal

pub loop-at-preserved : goal.loop-at-preserved
loop-at-preserved c =
    let o = c.args.outline.now in
    let at = c.loop-at.at in
    let f : ℕ → ℕ = λ d. unwrap_or (operand_at o c.args.names.now d) (slice_index c.args.base.now d) in
    let value : c.or_else.result ≡ f at =
    c.or_else.ensures
    ∙ ap (λ r. unwrap_or r (slice_index c.args.base.now at))
    (c.last_of_dim-found.ensures ∙ ap (λ (ms : List ℕ). last_or None (filter (at_number (is_of_dim at) o) ms)) (c.as_slice.ensures.value ∙ c.in_ok-members.ensures)) in
    c.in_ok-push.ensures.items
    ∙ (ap (λ (xs : List ℕ). xs ++ c.or_else.result ∷ []) c.loop-at.invariant
    ∙ (ap (λ (x : ℕ). map f (range_with_len 0 at) ++ x ∷ []) value ∙ sym (map_push f at)))
