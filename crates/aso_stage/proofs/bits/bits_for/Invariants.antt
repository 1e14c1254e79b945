use Rattle.std.proofs.Common.{◌≡◌, ◌≤◌, ◌^◌, length}
use Rattle.std.specs.Prelude.{nat_lt}
use Rattle.std.specs.List.{range_with_len, filter}
use Rattle.aso_stage.proofs.bits.bits_for.Given as goal

abbrev pub invariant-loop-bit : goal.invariant-loop-bit
invariant-loop-bit l = record {
  value : l.bits ≡ length (filter (λ b. nat_lt (2 ^ b) l.count) (range_with_len 0 l.bit));
  bound : l.bits ≤ l.bit;
}
