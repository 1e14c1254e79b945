use Rattle.std.proofs.Common.{◌≡◌, map}
use Rattle.aso_load.specs.Csv.{IsReading, left_of}
use Rattle.aso_load.specs.Gathering.{IsSoFar}
use Rattle.aso_load.specs.Records.{fixed_leaves, outcome}
use Rattle.aso_load.proofs.gather.gather.Given as goal

abbrev pub invariant-loop-row : goal.invariant-loop-row
invariant-loop-row l = record {
  reading : IsReading l.reader;
  fixed : l.fixed.items ≡ fixed_leaves l.outline l.rules.fixed;
  so_far : IsSoFar l.outline l.rules (map (outcome l.outline l.rules) (left_of l.fn.reader)) l.first l.row l.gathered (left_of l.reader);
}
