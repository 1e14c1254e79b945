use Rattle.std.specs.Prelude.{IfOk}
use Rattle.std.specs.Option.{option_map}
use Rattle.std.proofs.Common.{◌≡◌, ◌∙◌, ◌∷◌, ◌++◌, [], List, Option, sym, subst, ap}
use Rattle.aso_outline.specs.declared.seat.DimRef.{DimRef}
use Rattle.aso_outline.specs.Members.{Name}
use Rattle.aso_axes.proofs.WrongLemmas.{behind_first, some_mapped, tuple_found, tuple_later}
use Rattle.aso_axes.proofs.wrong.+wrong_tuple.Goals as goal

pub returns-then-is_some : goal.returns-then-is_some
returns-then-is_some t c =
    tuple_found c.args.outline.now c.args.own.now c.args.purpose c.args.paths.now c.path-item.result c.items-path.result.now c.in-len1-up.len_at_least c.path-item.is c.items-path.ensures c.args.before.now
    (option_map (λ w. w.now) c.args.wanted) (option_map (λ s. s.now) c.in_ok-found.found) c.in_ok-found.ensures (some_mapped (λ s. s.now) c.in_ok-found.found _ (sym c.is_some.ensures ∙ c.if-is_some.true))

pub returns : goal.returns
returns t c =
    let named : c.as_slice.result.now ≡ c.args.before.now ++ c.dim_at.result ∷ [] = c.as_slice.ensures.value ∙ c.in_ok-named.ensures in
    subst (λ (n : Option Name). IfOk c.wrong_tuple.result (λ found. option_map (λ s. s.now) found ≡ n))
    (tuple_later c.args.outline.now c.args.own.now c.args.purpose c.args.paths.now c.path-item.result c.items-path.result.now c.in-len1-up.len_at_least c.path-item.is c.items-path.ensures c.args.before.now
    (option_map (λ w. w.now) c.args.wanted) (option_map (λ s. s.now) c.in_ok-found.found) _ c.as_slice.result.now (option_map (λ w. w.now) c.past.result) c.in_ok-found.ensures
    (some_mapped (λ s. s.now) c.in_ok-found.found _ (sym c.is_some.ensures ∙ c.if-is_some.false))
    (behind_first c.args.paths.now) (named ∙ ap (λ (d : DimRef). c.args.before.now ++ d ∷ []) c.dim_at.ensures) c.past.ensures) c.wrong_tuple.ensures
