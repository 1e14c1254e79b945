use Rattle.std.proofs.Common.{length}
use Rattle.aso_keys.proofs.views.+are_coarser.Given as goal

abbrev pub decreases-are_coarser : goal.decreases-are_coarser
decreases-are_coarser l = length l.coarse.now
