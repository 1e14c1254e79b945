use Rattle.std.proofs.Common.{◌≡◌, length}
use Rattle.aso_catalog.proofs.Fields.{Found}
use Rattle.aso_catalog.proofs.reading.cells_at.Given as goal

abbrev pub invariant-loop : goal.invariant-loop
invariant-loop l = record {
  count : length l.found.items ≡ l.counter;
  so_far : Found l.dimensions l.found.items l.bytes l.rest;
}
