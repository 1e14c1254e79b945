use Rattle.std.proofs.Common.{◌<◌, ◌^◌, arith, ap, ◌∙◌, refl}
use Rattle.std.specs.Prelude.{nat_lt}
use Rattle.std.proofs.lemmas.Grind.{one_shifted}
use Rattle.aso_stage.proofs.bits.is_power_below.Goals as goal

pub returns : goal.returns
returns c =
    let low : c.args.bit < 64 = omega (arith, c.requires) in
    let shifted = (one_shifted c.args.bit 18446744073709551615 refl low).0 in
    ap (λ n. nat_lt n c.from.result) shifted ∙ ap (nat_lt (2 ^ c.args.bit)) c.from.ensures
