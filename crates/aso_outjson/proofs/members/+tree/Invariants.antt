use Rattle.std.proofs.Common.{◌≡◌, ◌+◌, ◌*◌, length, drop, map}
use Rattle.serde_json.specs.View.{view}
use Rattle.aso_outjson.specs.Fields.{joined}
use Rattle.aso_outjson.specs.Gives.{behind}
use Rattle.aso_outjson.specs.Members.{tree_at}
use Rattle.aso_outjson.proofs.members.+tree.Given as goal

abbrev pub decreases-tree_at : goal.decreases-tree_at
decreases-tree_at l = 4 * l.levels

abbrev pub decreases-each_tree : goal.decreases-each_tree
decreases-each_tree l = 4 * l.levels + 1

abbrev pub decreases-trees : goal.decreases-trees
decreases-trees l = 4 * l.levels + 2

abbrev pub decreases-children : goal.decreases-children
decreases-children l = 4 * l.levels + 3

abbrev pub invariant-each_tree-loop-number : goal.invariant-each_tree-loop-number
invariant-each_tree-loop-number l =
    behind l.fn.members.items (joined (tree_at l.levels l.parent) 0 (length l.fn.members.items) (map view l.values))
    ≡ behind l.members.items (joined (tree_at l.levels l.parent) l.number (length l.members.items) (map view (drop l.number l.values)))
