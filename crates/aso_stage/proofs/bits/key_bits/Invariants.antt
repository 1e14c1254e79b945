use Rattle.std.proofs.Common.{◌≡◌, ◌≤◌, ◌*◌, length, map}
use Rattle.std.specs.Prelude.{sum}
use Rattle.std.specs.List.{range_with_len}
use Rattle.aso_outline.specs.Members.{data_leaves, dim_at}
use Rattle.aso_outline.specs.Rules.{bits_for}
use Rattle.aso_stage.proofs.bits.key_bits.Given as goal

abbrev pub invariant-loop-dim : goal.invariant-loop-dim
invariant-loop-dim l = record {
  value : l.bits ≡ sum (map (λ d. bits_for (length (data_leaves (dim_at l.outline d)))) (range_with_len 0 l.dim));
  bound : l.bits ≤ 32 * l.dim;
}
