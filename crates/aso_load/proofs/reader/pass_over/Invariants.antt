use Rattle.std.proofs.Common.{◌≡◌, drop}
use Rattle.aso_load.specs.Csv.{IsReading, left_of}
use Rattle.aso_load.proofs.reader.pass_over.Given as goal

abbrev pub invariant-loop-passed : goal.invariant-loop-passed
invariant-loop-passed l = record {
  reading : IsReading l.reader;
  left : left_of l.reader ≡ drop l.passed (left_of l.fn.reader);
}
