use Rattle.std.proofs.Common.{drop}
use Rattle.aso_runs.specs.Cells.{entries_of}
use Rattle.aso_buffer.specs.Buffers.{keyed}
use Rattle.aso_buffer.specs.Rows.{records_of}
use Rattle.aso_buffer.proofs.KeyLemmas.{IsSoFar}
use Rattle.aso_buffer.proofs.combining.keyed_rows.Given as goal

abbrev pub invariant-loop-row : goal.invariant-loop-row
invariant-loop-row g l = IsSoFar l.layout (drop l.row-index l.rows) l.rest (entries_of l.cells.items) (keyed l.layout (records_of l.rows l.leaves))
