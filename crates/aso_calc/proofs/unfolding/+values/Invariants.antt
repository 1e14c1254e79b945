use Rattle.std.proofs.Common.{◌≡◌, ◌+◌, ◌*◌, map, take}
use Rattle.std.specs.Prelude.{set, slice_index, IfOk}
use Rattle.aso_num.specs.declared.value.Val.TheVariants.{Missing}
use Rattle.aso_num.specs.Numbers.{IsInRange}
use Rattle.aso_outline.specs.Marks.{op_of}
use Rattle.aso_outline.specs.Numbers.{seat_of}
use Rattle.aso_calc.specs.Known.{Knows}
use Rattle.aso_calc.specs.Stored.{given_at}
use Rattle.aso_calc.specs.Values.{children_value, replaced, value_within}
use Rattle.aso_calc.proofs.unfolding.+values.Given as goal

abbrev pub invariant-atom_values-loop-names : goal.invariant-atom_values-loop-names
invariant-atom_values-loop-names l = record {
  known : Knows l.outline l.extra.members.items (given_at l.stored) l.known;
  values : l.values.items ≡ map (λ names. value_within l.ranks l.outline l.extra.members.items (given_at l.stored l.attrs) (replaced l.outline l.base names)) (map (λ a. a.now) (take l.names-index l.names-items));
}

abbrev pub invariant-by_children-loop-child : goal.invariant-by_children-loop-child
invariant-by_children-loop-child l = record {
  known : Knows l.outline l.extra.members.items (given_at l.stored) l.known;
  total : l.total ≡ children_value (λ k. op_of l.outline (seat_of l.outline k)) (λ k. value_within l.ranks l.outline l.extra.members.items (given_at l.stored l.attrs) (set l.base l.at k)) (take l.child-index l.child-items);
  range : IfOk l.total IsInRange;
}

abbrev pub decreases-value_within : goal.decreases-value_within
decreases-value_within l = 6 * l.ranks

abbrev pub decreases-value_step : goal.decreases-value_step
decreases-value_step l = 6 * l.ranks + 5

abbrev pub decreases-unfold : goal.decreases-unfold
decreases-unfold l = 6 * l.ranks + 4

abbrev pub decreases-by_formula : goal.decreases-by_formula
decreases-by_formula l = 6 * l.ranks + 3

abbrev pub decreases-by_children : goal.decreases-by_children
decreases-by_children l = 6 * l.ranks + 3

abbrev pub decreases-atom_values : goal.decreases-atom_values
decreases-atom_values l = 6 * l.ranks + 2

abbrev pub decreases-with_value : goal.decreases-with_value
decreases-with_value l = 6 * l.ranks + 2
