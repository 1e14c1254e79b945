use Rattle.std.proofs.Common.{◌+◌, ◌*◌, ◌≤◌}
use Rattle.std.specs.Prelude.{vec_len, vec_capacity}
use Rattle.aso_catalog.specs.Record.{longest_cell}
use Rattle.aso_catalog.proofs.Fields.{Written}
use Rattle.aso_catalog.proofs.writing.put_cells.Given as goal

abbrev pub invariant-loop-cell : goal.invariant-loop-cell
invariant-loop-cell l = record {
  written : Written l.dimensions l.cells l.cell-index l.initial.out.items l.out.items;
  most : vec_len l.out ≤ vec_len l.initial.out + l.cell-index * longest_cell l.dimensions;
  grows : vec_capacity l.initial.out ≤ vec_capacity l.out;
}
