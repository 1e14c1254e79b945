use Rattle.std.proofs.Common.{arith, subst}
use Rattle.aso_outline.specs.declared.draft.Tuple.{Tuple}
use Rattle.aso_sums.specs.Summing.{IsRow}
use Rattle.aso_sums.proofs.Placing.{rows_more}
use Rattle.aso_sums.proofs.rows.rows_of.Goals as goal

pub loop-tuple-preserved : goal.loop-tuple-preserved
loop-tuple-preserved c = record {
  asking = c.in_ok-row_of.ensures.asking;
  rows = rows_more c.args.outline.now c.loop-tuple.asked.members.items c.row_of.new.asked.members.items c.loop-tuple.rows.items c.push.new.self.items c.args.tuples.now c.loop-tuple.tuple-index c.in_ok-row_of.field-0 c.tuple-item.result (omega arith) c.in_ok-push.ensures.items c.in_ok-row_of.ensures.extends
      (subst (λ (t : Tuple). IsRow c.args.outline.now c.row_of.new.asked.members.items c.in_ok-row_of.field-0 t) c.tuple-item.is c.in_ok-row_of.ensures.row) c.loop-tuple.invariant.rows;
}
