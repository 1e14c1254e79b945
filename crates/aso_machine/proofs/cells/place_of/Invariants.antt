use Rattle.std.proofs.Common.{◌≡◌, ◌+◌, drop}
use Rattle.std.specs.List.{prefix_len}
use Rattle.aso_machine.specs.CellSteps.{is_before}
use Rattle.aso_machine.proofs.cells.place_of.Given as goal

abbrev pub invariant-loop-i : goal.invariant-loop-i
invariant-loop-i l = l.i + prefix_len (is_before l.key) (drop l.i l.cells) ≡ prefix_len (is_before l.key) l.cells
