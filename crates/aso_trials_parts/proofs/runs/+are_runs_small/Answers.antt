use Rattle.std.proofs.Common.{rules, arith, ◌≡◌, ◌∙◌, ◌-◌, ◌^◌, ◌<◌, ◌++◌, ◌∷◌, List, length, take, drop, sym, ap, subst}
use Rattle.std.proofs.lemmas.Bool.{OnTrue_at, OnTrue_from}
use Rattle.std.proofs.lemmas.Slice.{first_rest}
use Rattle.aso_runs.specs.Runs.{Entries, greatest, joined}
use Rattle.aso_trials_parts.proofs.Amounts.{greatest_append}
use Rattle.aso_trials_parts.proofs.runs.+are_runs_small.Goals as goal

pub returns-then-is_small : goal.returns-then-is_small
returns-then-is_small t c =
    let runs = c.args.runs.now in
    let first : Entries = c.first-item.result in
    let rest = take (length runs - 1) (drop 1 runs) in
    let split : runs ≡ first ∷ rest =
    first_rest runs first (omega (arith, c.in-len1-up.len_at_least)) ∙ ap (λ (r : Entries). r ∷ rest) (sym c.first-item.is) in
    OnTrue_from c.are_runs_small.result _ (λ yes.
    let one : greatest first < 10 ^ 18 = OnTrue_at c.if-is_small.true c.is_small.ensures in
    let others : greatest (joined rest) < 10 ^ 18 = OnTrue_at yes c.are_runs_small.ensures in
    let both : greatest (first ++ joined rest) < 10 ^ 18 = omega (arith, greatest_append first (joined rest), one, others) in
    subst (λ (all : List Entries). greatest (joined all) < 10 ^ 18) (sym split) both)
