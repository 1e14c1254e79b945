use Rattle.std.proofs.Common.{rules}
use Rattle.aso_sums.proofs.Placing.{no_row, row_placed, short_row}
use Rattle.aso_sums.proofs.rows.row_of.Goals as goal

pub returns-then-items-dims-clause-row : goal.returns-then-items-dims-clause-row
returns-then-items-dims-clause-row c = short_row c.args.outline.now c.args.asked.now.members.items c.args.tuple.now (search (rules, c.if-items-dims.true))

pub returns-in-Some-clause-row : goal.returns-in-Some-clause-row
returns-in-Some-clause-row c =
    row_placed c.args.outline.now c.places_of.new.asked.members.items c.of.result c.args.tuple.now c.in_ok-coordinates.coordinates.items (search (rules, c.if-items-dims.false)) c.in_ok-coordinates.ensures (search (rules, c.in_ok-places.ensures.places, c.in-Some.is))

pub returns-clause-row : goal.returns-clause-row
returns-clause-row c =
    no_row c.args.outline.now c.places_of.new.asked.members.items c.args.tuple.now c.in_ok-coordinates.coordinates.items (search (rules, c.if-items-dims.false)) c.in_ok-coordinates.ensures (search (rules, c.in_ok-places.ensures.places, c.in-None.is))
