use Rattle.std.proofs.Common.{◌≡◌, ◌<◌, ◌^◌, subst, sym, true}
use Rattle.std.specs.Prelude.{unsigned_abs}
use Rattle.aso_cellnames.specs.Leaves.{are_leaves, leaf_counts}
use Rattle.aso_sums.specs.Summing.{AreLeaves}
use Rattle.aso_eval.specs.Entries.{Entry}
use Rattle.aso_eval.proofs.CellLemmas.{in_range, leaf_at, leaves_of}
use Rattle.aso_eval.proofs.cells.stored_values.Goals as goal

pub amount_of-requires : goal.amount_of-requires
amount_of-requires c =
    subst (λ (e : Entry). unsigned_abs e.1 < 10 ^ 18) (sym c.cell-item.is) (in_range c.args.cells.now c.loop-cell.cell-index c.cell-item.result c.loop-cell-test.true c.requires.range)

pub add-requires-clause-leaves : goal.add-requires-clause-leaves
add-requires-clause-leaves c =
    let o = c.args.outline.now in
    let p = are_leaves (leaf_counts o) in
    let here : p c.cell-item.result.0.items ≡ true =
    subst (λ (e : Entry). p e.0.items ≡ true) (sym c.cell-item.is) (leaf_at p c.args.cells.now c.loop-cell.cell-index c.cell-item.result c.loop-cell-test.true c.requires.leaves) in
    subst (AreLeaves o) (sym c.deref.ensures.value) (leaves_of o c.cell-item.result.0.items here)
