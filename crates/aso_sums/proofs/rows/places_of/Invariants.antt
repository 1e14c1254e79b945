use Rattle.std.proofs.Common.{take}
use Rattle.aso_sums.specs.Asking.{Extends, IsAsking}
use Rattle.aso_sums.specs.Summing.{ArePlaced}
use Rattle.aso_sums.proofs.rows.places_of.Given as goal

abbrev pub invariant-loop-dim : goal.invariant-loop-dim
invariant-loop-dim l = record {
  asking : IsAsking l.outline l.asked;
  extends : Extends l.initial.asked.members.items l.asked.members.items;
  placed : ArePlaced l.outline l.asked.members.items l.places.items (take l.dim-index l.coordinates);
}
