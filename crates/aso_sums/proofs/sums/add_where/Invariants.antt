use Rattle.std.proofs.Common.{◌≡◌, take}
use Rattle.aso_sums.specs.Summing.{values_with}
use Rattle.aso_sums.proofs.sums.add_where.Given as goal

abbrev pub invariant-loop-at : goal.invariant-loop-at
invariant-loop-at l = l.values.items ≡ values_with l.marks l.amount (take l.at l.rows) l.initial.values.items
