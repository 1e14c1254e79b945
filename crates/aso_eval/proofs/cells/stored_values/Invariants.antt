use Rattle.std.proofs.Common.{take}
use Rattle.aso_sums.specs.Summing.{HasSums}
use Rattle.aso_eval.specs.Entries.{cells_in}
use Rattle.aso_eval.proofs.cells.stored_values.Given as goal

abbrev pub invariant-loop-cell : goal.invariant-loop-cell
invariant-loop-cell l = HasSums l.outline l.tuples (cells_in (take l.cell-index l.cells)) l.sums
