use Rattle.std.proofs.Common.{◌≡◌, ◌<◌, map}
use Rattle.std.specs.Prelude.{slice_index, IfSome}
use Rattle.std.specs.List.{filter, range_with_len}
use Rattle.aso_tree.specs.Trees.{greatest}
use Rattle.aso_calc.specs.Values.{is_computed_at, last_greatest, order_at}
use Rattle.aso_calc.proofs.choice.unfolded.Given as goal

abbrev pub invariant-loop-at : goal.invariant-loop-at
invariant-loop-at l = record {
  most : l.most ≡ greatest (map (λ d. order_at l.outline l.extra.members.items (slice_index l.base d)) (filter (λ d. is_computed_at l.outline (slice_index l.base d)) (range_with_len 0 l.at)));
  within : IfSome l.best (λ d. d < l.at);
  best : l.best ≡ last_greatest (λ d. order_at l.outline l.extra.members.items (slice_index l.base d)) (filter (λ d. is_computed_at l.outline (slice_index l.base d)) (range_with_len 0 l.at));
}
