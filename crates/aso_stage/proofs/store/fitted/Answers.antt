use Rattle.std.proofs.Common.{◌≡◌, refl, true, false, rules}
use Rattle.aso_machine.specs.State.{fits_outline}
use Rattle.aso_stage.proofs.Standing.{stands_unfit, stands_with}
use Rattle.aso_stage.proofs.store.fitted.Goals as goal

pub returns-then-branch : goal.returns-then-branch
returns-then-branch c =
    let fits : fits_outline c.args.r c.args.outline ≡ true = search rules in
    (refl, stands_with c.args.r c.args.outline c.requires.keeps fits)

pub returns-else-branch : goal.returns-else-branch
returns-else-branch c =
    let unfit : fits_outline c.args.r c.args.outline ≡ false = search rules in
    stands_unfit c.args.r c.args.outline c.requires.only unfit
