use Rattle.std.proofs.Common.{◌≡◌, drop}
use Rattle.std.specs.List.{list_all}
use Rattle.aso_catalog.specs.declared.record.LeafCell.{LeafCell}
use Rattle.aso_machine.specs.State.{entry, is_cell_of}
use Rattle.aso_machine.proofs.fitting.are_cells_of.Given as goal

abbrev pub invariant-loop-cell : goal.invariant-loop-cell
invariant-loop-cell l = list_all (λ (c : LeafCell). is_cell_of l.counts (entry c)) (drop l.cell-index l.cells) ≡ list_all (λ (c : LeafCell). is_cell_of l.counts (entry c)) l.cells
