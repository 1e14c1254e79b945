use Rattle.std.proofs.Common.{length}
use Rattle.aso_axes.proofs.wrong.+wrong_tuple.Given as goal

abbrev pub decreases-wrong_tuple : goal.decreases-wrong_tuple
decreases-wrong_tuple l = length l.paths.now
