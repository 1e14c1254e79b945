use Rattle.std.proofs.Common.{◌≡◌, length, map}
use Rattle.std.specs.List.{range_with_len}
use Rattle.aso_outline.specs.Members.{data_leaves, dim_at}
use Rattle.aso_machine.proofs.fitting.leaf_counts.Given as goal

abbrev pub invariant-loop-dim : goal.invariant-loop-dim
invariant-loop-dim l = l.counts.items ≡ map (λ d. length (data_leaves (dim_at l.outline d))) (range_with_len 0 l.dim)
