use Rattle.std.proofs.Common.{length}
use Rattle.aso_keys.proofs.keys.+are_classes.Given as goal

abbrev pub decreases-are_classes : goal.decreases-are_classes
decreases-are_classes l = length l.axes.now
