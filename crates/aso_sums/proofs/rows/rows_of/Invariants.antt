use Rattle.std.proofs.Common.{take}
use Rattle.std.specs.List.{AllZip}
use Rattle.aso_sums.specs.Asking.{IsAsking}
use Rattle.aso_sums.specs.Summing.{IsRow}
use Rattle.aso_sums.proofs.rows.rows_of.Given as goal

abbrev pub invariant-loop-tuple : goal.invariant-loop-tuple
invariant-loop-tuple l = record {
  asking : IsAsking l.outline l.asked;
  rows : AllZip (IsRow l.outline l.asked.members.items) l.rows.items (take l.tuple-index l.tuples);
}
