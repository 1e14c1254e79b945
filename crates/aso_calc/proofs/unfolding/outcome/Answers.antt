use Rattle.std.proofs.Common.{◌≡◌, ◌∙◌, List, ℕ, Option, ap}
use Rattle.aso_calc.specs.Stored.{given_at}
use Rattle.aso_calc.specs.Values.{Outcome, ranks_of, value, value_within}
use Rattle.aso_calc.proofs.ValueLemmas.{if_ok}
use Rattle.aso_calc.proofs.unfolding.outcome.Goals as goal

pub returns-clause-value : goal.returns-clause-value
unfolding value
returns-clause-value c =
    let o = c.args.outline.now in
    let own = c.args.extra.now.members.items in
    let s = c.args.stored.now in
    let t = c.args.tuple.now in
    let attrs : List (Option ℕ) = c.items.result.now in
    let base : List ℕ = c.items-base.result.now in
    let same : value_within c.in_ok-ranks.ranks o own (given_at s attrs) base ≡ value_within (ranks_of o own t.base) o own (given_at s t.attrs) t.base =
    ap (λ (n : ℕ). value_within n o own (given_at s attrs) base) c.in_ok-ranks.ensures
    ∙ (ap (λ (b : List ℕ). value_within (ranks_of o own b) o own (given_at s attrs) b) c.items-base.ensures
    ∙ ap (λ (a : List (Option ℕ)). value_within (ranks_of o own t.base) o own (given_at s a) t.base) c.items.ensures) in
    if_ok c.value_within.result (λ r. r ≡ value_within c.in_ok-ranks.ranks o own (given_at s attrs) base) (λ r. r ≡ value_within (ranks_of o own t.base) o own (given_at s t.attrs) t.base)
    (λ r is. is ∙ same) c.value_within.ensures.value
