use Rattle.std.proofs.Common.{◌≡◌, ◌≤◌, take}
use Rattle.aso_outline.specs.Rules.{count_of_attr}
use Rattle.aso_outline.proofs.attributes.count_of_attr.Given as goal

abbrev pub invariant-loop-seat : goal.invariant-loop-seat
invariant-loop-seat l = record {
  value : l.count ≡ count_of_attr l.attr (take l.seat-index l.found);
  bound : l.count ≤ l.seat-index;
}
