use Rattle.std.proofs.Common.{◌-◌, length, map}
use Rattle.serde_json.specs.View.{view}
use Rattle.aso_outjson.proofs.TreeSteps.{Walks}
use Rattle.aso_outjson.proofs.printing.+tree.Given as goal

abbrev pub decreases-tree : goal.decreases-tree
decreases-tree l = length l.members.now - l.next.now

abbrev pub invariant-loop-next : goal.invariant-loop-next
invariant-loop-next l = Walks l.members l.at (map view l.below.items) l.next

abbrev pub decreases-loop-next : goal.decreases-loop-next
decreases-loop-next l = length l.members - l.next
