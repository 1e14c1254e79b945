use Rattle.aso_tree.proofs.Paths.{depth_up}
use Rattle.std.proofs.Common.{◌∙◌, ap, ◌+◌}
use Rattle.aso_tree.proofs.climb.+depth.Goals as goal

pub returns-then-parent-node-clause-value : goal.returns-then-parent-node-clause-value
returns-then-parent-node-clause-value g t c =
    ap (λ k. k + 1) c.depth.ensures.value ∙ depth_up (g.N.Node.parents_in c.args.nodes.now) c.args.node c.parent_at-parent.result c.parent_at-parent.ensures c.if-parent-node.true
