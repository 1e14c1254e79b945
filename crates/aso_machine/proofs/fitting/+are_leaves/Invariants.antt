use Rattle.std.proofs.Common.{length}
use Rattle.aso_machine.proofs.fitting.+are_leaves.Given as goal

abbrev pub decreases-are_leaves : goal.decreases-are_leaves
decreases-are_leaves l = length l.counts.now
