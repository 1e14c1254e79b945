use Rattle.std.proofs.Common.{◌≡◌, [], take}
use Rattle.std.specs.List.{flat_map, fold}
use Rattle.aso_calc.specs.Listed.{Lists}
use Rattle.aso_calc.specs.Needs.{noted, reached}
use Rattle.aso_calc.proofs.visits.needs.Given as goal

abbrev pub invariant-loop-tuple : goal.invariant-loop-tuple
invariant-loop-tuple l = record {
  lists : Lists l.outline l.extra.members.items l.listing;
  found : l.listing.found.items ≡ fold noted [] (flat_map (reached l.outline l.extra.members.items) (take l.tuple-index l.tuples));
}
