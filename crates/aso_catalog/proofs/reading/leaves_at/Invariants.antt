use Rattle.std.proofs.Common.{◌≡◌, ◌++◌, length}
use Rattle.aso_catalog.specs.Record.{AreSmall, leaves_text}
use Rattle.aso_catalog.proofs.reading.leaves_at.Given as goal

abbrev pub invariant-loop : goal.invariant-loop
invariant-loop l = record {
  count : length l.leaves.items ≡ l.counter;
  small : AreSmall l.leaves.items;
  found : l.bytes ≡ leaves_text l.leaves.items ++ l.rest;
}
