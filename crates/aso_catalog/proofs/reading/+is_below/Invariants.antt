use Rattle.std.proofs.Common.{length}
use Rattle.aso_catalog.proofs.reading.+is_below.Given as goal

abbrev pub decreases-is_below : goal.decreases-is_below
decreases-is_below l = length l.leaves.now
