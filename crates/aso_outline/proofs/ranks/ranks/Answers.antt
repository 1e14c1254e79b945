use Rattle.std.proofs.Common.{◌<◌, length, arith, subst}
use Rattle.aso_outline.specs.Graph.{IsClosed}
use Rattle.aso_outline.specs.Members.{seats}
use Rattle.aso_outline.proofs.GraphRows.{rows_long}
use Rattle.aso_outline.proofs.KnownRanks.{closed_right, turns_right}
use Rattle.aso_outline.proofs.ranks.ranks.Goals as goal

pub loop-turn-init : goal.loop-turn-init
loop-turn-init c = record {
  known = c.in_ok-settle_down.ensures.known;
  turns = λ t k r low e. absurd (omega (arith, low));
}

pub returns-then-is_done : goal.returns-then-is_done
returns-then-is_done c =
    let o = c.args.draft.now in
    closed_right o c.loop-turn.ranks.items c.loop-turn.invariant.known (subst (IsClosed o) c.as_slice.ensures.value (c.is_closed-is_done.ensures c.if-is_done.true))

pub returns : goal.returns
returns c =
    let o = c.args.draft.now in
    let end : length (seats o) < c.loop-turn.turn = omega (arith, rows_long o c.args.rows.now c.requires.rows, c.loop-turn-test.false, c.loop-turn.auto.turn-end) in
    turns_right o c.loop-turn.ranks.items c.loop-turn.invariant.known c.loop-turn.turn end c.loop-turn.invariant.turns
