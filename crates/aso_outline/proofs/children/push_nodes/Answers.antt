use Rattle.aso_outline.proofs.ChildChain.{one_more, starts}
use Rattle.aso_outline.proofs.children.push_nodes.Goals as goal

pub loop-next-init : goal.loop-next-init
loop-next-init c = starts c.args.forest.now c.args.node c.args.first c.args.numbers.now.items c.first_child-next.result c.first_child-next.ensures

pub loop-next-smaller : goal.loop-next-smaller
loop-next-smaller c =
    (one_more c.args.forest.now c.args.node c.args.first c.args.numbers.now.items c.loop-next.numbers.items c.push.new.self.items c.loop-next.next c.in-Some.child c.in-Some.is c.loop-next.invariant c.in_ok-push.ensures.items c.next_child-next.result c.next_child-next.ensures).1

pub loop-next-preserved : goal.loop-next-preserved
loop-next-preserved c =
    (one_more c.args.forest.now c.args.node c.args.first c.args.numbers.now.items c.loop-next.numbers.items c.push.new.self.items c.loop-next.next c.in-Some.child c.in-Some.is c.loop-next.invariant c.in_ok-push.ensures.items c.next_child-next.result c.next_child-next.ensures).0
