use Rattle.std.proofs.Common.{arith, length}
use Rattle.std.proofs.lemmas.Grind.{common_steps}
use Rattle.aso_tree.specs.Trees.{under}
use Rattle.aso_tree.proofs.Paths.{map_push}
use Rattle.aso_tree.proofs.table.spans_of.Goals as goal

pub loop-node-preserved : goal.loop-node-preserved
loop-node-preserved c = let push = map_push (λ i. length (under c.args.parents.now i)) c.loop-node.node in grind (arith, common_steps, push)
