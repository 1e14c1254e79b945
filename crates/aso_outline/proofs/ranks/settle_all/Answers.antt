use Rattle.std.proofs.Common.{arith}
use Rattle.aso_outline.proofs.GraphRows.{rows_long}
use Rattle.aso_outline.proofs.KnownRanks.{after_turn, next_kept, turn_ended}
use Rattle.aso_outline.proofs.ranks.settle_all.Goals as goal

pub loop-number-preserved : goal.loop-number-preserved
loop-number-preserved c = record {
  known = c.settle.ensures.known;
  turns = λ t k r low e. c.settle.ensures.kept k r (c.loop-number.invariant.turns t k r low e);
  next = next_kept c.args.draft.now c.args._turn c.loop-number.ranks.items c.settle.new.ranks.items c.loop-number.number c.loop-number.invariant.next c.settle.ensures.kept
      (λ r e. c.settle.ensures.found r (after_turn c.args.draft.now c.loop-number.ranks.items c.loop-number.invariant.known c.args._turn c.loop-number.number r c.loop-number.invariant.turns e));
}

pub returns-clause-turns : goal.returns-clause-turns
returns-clause-turns c =
    turn_ended c.args.draft.now c.args._turn c.loop-number.ranks.items c.loop-number.invariant.known c.loop-number.number
    (omega (arith, rows_long c.args.draft.now c.args.rows.now c.requires.rows, c.loop-number-test.false)) c.loop-number.invariant.turns c.loop-number.invariant.next
