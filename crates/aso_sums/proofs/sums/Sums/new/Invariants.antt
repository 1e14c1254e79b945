use Rattle.std.proofs.Common.{◌≡◌, length}
use Rattle.aso_sums.proofs.Summing.{AreMissing}
use Rattle.aso_sums.proofs.sums.Sums.new.Given as goal

abbrev pub invariant-loop-tuple : goal.invariant-loop-tuple
invariant-loop-tuple l = record {
  count : length l.values.items ≡ l._tuple-index;
  missing : AreMissing l.values.items;
}
