use Rattle.std.proofs.Common.{refl}
use Rattle.aso_script.proofs.AmountLemmas.{no_text_no_amount}
use Rattle.aso_script.proofs.parts.amount.Goals as goal

pub returns-in_default : goal.returns-in_default
returns-in_default c = rw (no_text_no_amount c.args.text.now c.in_default.ensures.cases.0) refl
