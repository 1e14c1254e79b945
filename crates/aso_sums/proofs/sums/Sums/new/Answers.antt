use Rattle.std.proofs.Common.{arith}
use Rattle.aso_sums.proofs.Summing.{no_sums}
use Rattle.aso_sums.proofs.sums.Sums.new.Goals as goal

pub returns : goal.returns
returns c = no_sums c.args.outline.now c.args.tuples.now _ c.in_ok-rows.ensures.asking.numbers c.in_ok-rows.ensures.rows (omega (arith, c.loop-tuple.invariant.count)) c.loop-tuple.invariant.missing
