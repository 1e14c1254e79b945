use Rattle.std.proofs.Common.{arith}
use Rattle.aso_outline.proofs.GraphRows.{rows_long}
use Rattle.aso_outline.proofs.KnownRanks.{closed_on}
use Rattle.aso_outline.proofs.ranks.is_closed.Goals as goal

pub returns : goal.returns
returns c _ =
    closed_on c.args.draft.now c.args.ranks.now c.requires.known c.loop-number.number
    (omega (arith, rows_long c.args.draft.now c.args.rows.now c.requires.rows, c.loop-number-test.false)) c.loop-number.invariant
