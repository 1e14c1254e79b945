use Rattle.std.proofs.Common.{◌∙◌}
use Rattle.aso_tree.proofs.Paths.{is_under_up}
use Rattle.aso_tree.proofs.climb.+is_under.Goals as goal

pub returns-then-parent-node : goal.returns-then-parent-node
returns-then-parent-node g t c =
    c.is_under.ensures ∙ is_under_up (g.N.Node.parents_in c.args.nodes.now) c.args.top c.args.node c.parent_at-parent.result c.parent_at-parent.ensures c.if-parent-node.true c.if-node-top.false
