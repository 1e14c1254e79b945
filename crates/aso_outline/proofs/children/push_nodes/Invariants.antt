use Rattle.aso_outline.proofs.ChildChain.{Walks, left}
use Rattle.aso_outline.proofs.children.push_nodes.Given as goal

abbrev pub invariant-loop-next : goal.invariant-loop-next
invariant-loop-next l = Walks l.forest l.node l.first l.initial.numbers.items l.numbers.items l.next

abbrev pub decreases-loop-next : goal.decreases-loop-next
decreases-loop-next l = left l.forest l.node l.first l.next
