use Rattle.std.proofs.Common.{List, ℕ, [], ap, arith}
use Rattle.aso_axes.proofs.CountLemmas.{flat_put}
use Rattle.aso_grid.specs.Places.{tuples_of_row}
use Rattle.aso_grid.proofs.cells.cells_at.Goals as goal

pub loop-row-preserved : goal.loop-row-preserved
loop-row-preserved c =
    let f = tuples_of_row c.args.places.now.base.items c.args.places.now.attrs.items c.args.columns.now c.args.slicer.now in
    flat_put f c.args.rows.now c.loop-row.row-index c.row-item.result [] c.loop-row.cells.items c.push_row.new.cells.items
    (f c.items.result.now) (omega arith) c.row-item.is c.loop-row.invariant c.in_ok-push_row.ensures (ap f c.items.ensures)
