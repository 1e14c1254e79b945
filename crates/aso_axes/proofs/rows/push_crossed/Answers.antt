use Rattle.std.proofs.Common.{◌++◌, ℕ, List, map, ap, arith}
use Rattle.aso_axes.proofs.CountLemmas.{flat_put}
use Rattle.aso_axes.proofs.rows.push_crossed.Goals as goal

pub loop-row-preserved : goal.loop-row-preserved
loop-row-preserved c =
    let right = c.args.right.now in
    let f : List ℕ → List (List ℕ) = λ x. map (λ (y : List ℕ). x ++ y) right in
    flat_put f c.args.left.now c.loop-row.row-index c.row-item.result c.args.rows.now.items c.loop-row.rows.items c.push_joined.new.rows.items
    (f c.items.result.now) (omega arith) c.row-item.is c.loop-row.invariant c.in_ok-push_joined.ensures (ap f c.items.ensures)
