use Rattle.std.proofs.Common.{◌≡◌, ◌++◌, length, take}
use Rattle.aso_buffer.specs.Rows.{Extends, leaves_in, records_of}
use Rattle.aso_buffer.proofs.records.push_all.Given as goal

abbrev pub invariant-loop-amount : goal.invariant-loop-amount
invariant-loop-amount l = record {
  added : records_of l.rows.items l.leaves.items ≡ records_of l.fn.rows.items l.fn.leaves.items ++ take l.amount-index l.amounts;
  whole : leaves_in l.rows.items ≡ length l.leaves.items;
  leaves : Extends l.fn.leaves.items l.leaves.items;
  rows : Extends l.fn.rows.items l.rows.items;
}
