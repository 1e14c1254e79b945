use Rattle.std.proofs.Common.{rules, ◌≡◌, true}
use Rattle.std.proofs.lemmas.Bool.{OnTrue_at}
use Rattle.aso_trials_parts.proofs.Amounts.{above}
use Rattle.aso_trials_parts.proofs.runs.negated.Goals as goal

pub negate-requires : goal.negate-requires
negate-requires c =
    let small : c.is_small.result ≡ true = search rules in (
      search rules,
      above c.args.run.now (OnTrue_at small c.is_small.ensures),
    )
