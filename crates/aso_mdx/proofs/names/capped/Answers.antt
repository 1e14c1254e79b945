use Rattle.std.proofs.Common.{arith}
use Rattle.aso_num.proofs.Digits.{capped_step}
use Rattle.aso_mdx.proofs.names.capped.Goals as goal

pub loop-digit-preserved : goal.loop-digit-preserved
loop-digit-preserved c = record { capped = omega arith; rest = capped_step 128 c.loop-digit.number _ _ c.args.digits.now c.loop-digit.digit-index c.loop-digit-test.true (omega arith) c.loop-digit.invariant.rest }
