use Rattle.std.proofs.Common.{◌≡◌, ◌∙◌, ◌-◌, ◌<◌, true, List, ℕ, Option, map, sym, ap, subst, arith}
use Rattle.std.specs.List.{list_all}
use Rattle.aso_outline.specs.declared.draft.Tuple.{Tuple}
use Rattle.aso_calc.specs.Needs.{all_noted, has, reached_step, reached_within, with_attrs}
use Rattle.aso_calc.specs.Values.{resolved}
use Rattle.aso_calc.proofs.BeenLemmas.{any_ok, within_reached}
use Rattle.aso_calc.proofs.ListingLemmas.{all_there, none_new}
use Rattle.aso_calc.proofs.visits.+visits.Goals as goal

pub visit_within-returns-then-is_known-clause-found : goal.visit_within-returns-then-is_known-clause-found
visit_within-returns-then-is_known-clause-found t c =
    let o = c.args.outline.now in
    let own = c.args.extra.now.members.items in
    let old : List Tuple = c.args.listing.now.found.items in
    let step : List ℕ → List (List ℕ) = reached_step o own (reached_within (c.args.ranks - 1) o own) in
    let place : c.as_slice-2.result.now ≡ resolved o c.args.base.now = c.as_slice-2.ensures.value ∙ c.in_ok-place.ensures in
    let there : list_all (has old) (map (with_attrs c.args.attrs.now) (step (resolved o c.args.base.now))) ≡ true =
    subst (λ (b : List ℕ). list_all (has old) (map (with_attrs c.args.attrs.now) (step b)) ≡ true) place (c.in_ok-is_known.ensures c.if-is_known.true) in
    sym (ap (all_noted c.args.attrs.now old) (within_reached o own c.args.ranks c.args.base.now (omega (arith, c.if-ranks-eq0.false))) ∙ none_new (map (with_attrs c.args.attrs.now) (step (resolved o c.args.base.now))) old there)

pub visit_within-mark-requires-clause-found : goal.visit_within-mark-requires-clause-found
visit_within-mark-requires-clause-found t c =
    let o = c.args.outline.now in
    let own = c.args.extra.now.members.items in
    let old : List Tuple = c.args.listing.now.found.items in
    let attrs : List (Option ℕ) = c.args.attrs.now in
    let step : List ℕ → List (List ℕ) = reached_step o own (reached_within (c.args.ranks - 1) o own) in
    let last : List ℕ = c.as_slice-4.result.now in
    let found : c.visit_step.new.listing.found.items ≡ all_noted attrs old (step last) =
    c.in_ok-visit_step.ensures.found ∙ ap (λ (b : List ℕ). all_noted attrs old (step b)) (c.as_slice-3.ensures.value ∙ sym c.as_slice-4.ensures.value) in
    subst (λ (ts : List Tuple). list_all (has ts) (map (with_attrs attrs) (step last)) ≡ true) (sym found) (all_there (map (with_attrs attrs) (step last)) old)

pub visit_within-returns-clause-found : goal.visit_within-returns-clause-found
visit_within-returns-clause-found t c =
    let o = c.args.outline.now in
    let own = c.args.extra.now.members.items in
    let old : List Tuple = c.args.listing.now.found.items in
    let attrs : List (Option ℕ) = c.args.attrs.now in
    let step : List ℕ → List (List ℕ) = reached_step o own (reached_within (c.args.ranks - 1) o own) in
    any_ok c.mark.result (c.mark.new.listing.found.items ≡ all_noted attrs old (reached_within c.args.ranks o own c.args.base.now))
    (c.mark.ensures.found
    ∙ (c.in_ok-visit_step.ensures.found
    ∙ ap (all_noted attrs old) (ap step (c.as_slice-3.ensures.value ∙ c.in_ok-place.ensures) ∙ sym (within_reached o own c.args.ranks c.args.base.now (omega (arith, c.if-ranks-eq0.false))))))
