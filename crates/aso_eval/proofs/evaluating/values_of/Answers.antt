use Rattle.std.proofs.Common.{◌≡◌, ◌∙◌, Some, ap, sym}
use Rattle.aso_eval.specs.Entries.{cell_in, cells_in}
use Rattle.aso_cellnames.specs.Leaves.{are_leaves, leaf_counts}
use Rattle.aso_eval.specs.Sheets.{past}
use Rattle.aso_eval.proofs.CellLemmas.{past_at}
use Rattle.aso_eval.proofs.evaluating.values_of.Goals as goal

pub past_amount-requires : goal.past_amount-requires
past_amount-requires c =
    let cells = c.in_ok-cells.cells.items in
    let found : past (cells_in cells) ≡ Some (cell_in c.in-Some.cell.now) = ap (λ es. past (cells_in es)) (sym c.deref-2.ensures.value) ∙ sym c.in-Some.ensures in
    past_at (are_leaves (leaf_counts c.args.outline.now)) (cells_in cells) (cell_in c.in-Some.cell.now) c.in_ok-cells.ensures.leaves found
