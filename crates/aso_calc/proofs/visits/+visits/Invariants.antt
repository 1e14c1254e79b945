use Rattle.std.proofs.Common.{◌≡◌, ◌+◌, ◌*◌, map, take}
use Rattle.std.specs.Prelude.{set}
use Rattle.std.specs.List.{filter, flat_map}
use Rattle.aso_calc.specs.Listed.{Lists}
use Rattle.aso_calc.specs.Needs.{all_noted, is_counted, reached_within}
use Rattle.aso_calc.specs.Values.{replaced}
use Rattle.aso_calc.proofs.visits.+visits.Given as goal

abbrev pub invariant-visit_atoms-loop-names : goal.invariant-visit_atoms-loop-names
invariant-visit_atoms-loop-names l = record {
  lists : Lists l.outline l.extra.members.items l.listing;
  found : l.listing.found.items ≡ all_noted l.attrs l.initial.listing.found.items (flat_map (reached_within l.ranks l.outline l.extra.members.items) (map (replaced l.outline l.base) (map (λ a. a.now) (take l.names-index l.names-items))));
}

abbrev pub invariant-visit_children-loop-child : goal.invariant-visit_children-loop-child
invariant-visit_children-loop-child l = record {
  lists : Lists l.outline l.extra.members.items l.listing;
  found : l.listing.found.items ≡ all_noted l.attrs l.initial.listing.found.items (flat_map (reached_within l.ranks l.outline l.extra.members.items) (map (set l.base l.at) (filter (is_counted l.outline) (take l.child-index l.child-items))));
}

abbrev pub decreases-visit_within : goal.decreases-visit_within
decreases-visit_within l = 6 * l.ranks

abbrev pub decreases-visit_step : goal.decreases-visit_step
decreases-visit_step l = 6 * l.ranks + 5

abbrev pub decreases-visit_operands : goal.decreases-visit_operands
decreases-visit_operands l = 6 * l.ranks + 4

abbrev pub decreases-visit_children : goal.decreases-visit_children
decreases-visit_children l = 6 * l.ranks + 3

abbrev pub decreases-visit_child : goal.decreases-visit_child
decreases-visit_child l = 6 * l.ranks + 2

abbrev pub decreases-visit_atoms : goal.decreases-visit_atoms
decreases-visit_atoms l = 6 * l.ranks + 2
