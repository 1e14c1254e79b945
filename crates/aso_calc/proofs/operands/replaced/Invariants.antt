use Rattle.std.proofs.Common.{◌≡◌, map}
use Rattle.std.specs.Prelude.{slice_index, unwrap_or}
use Rattle.std.specs.List.{range_with_len}
use Rattle.aso_calc.specs.Values.{operand_at}
use Rattle.aso_calc.proofs.operands.replaced.Given as goal

abbrev pub invariant-loop-at : goal.invariant-loop-at
invariant-loop-at l = l.all.items ≡ map (λ d. unwrap_or (operand_at l.outline l.names d) (slice_index l.base d)) (range_with_len 0 l.at)
