use Rattle.std.proofs.Common.{take, map}
use Rattle.aso_sums.specs.Summing.{HasSums}
use Rattle.aso_machine.specs.State.{entry}
use Rattle.aso_machine.proofs.asking.stored_values.Given as goal

-- the sums over the cells so far
abbrev pub invariant-loop-cell : goal.invariant-loop-cell
invariant-loop-cell l = HasSums l.outline l.tuples (map entry (take l.cell-index l.cells)) l.sums
