use Rattle.std.proofs.Common.{◌+◌, arith, sym}
use Rattle.aso_tree.proofs.Children.{is_first_child, no_first_child}
use Rattle.aso_tree.proofs.child.first_child.Goals as goal

pub returns-then-next-parents : goal.returns-then-next-parents
returns-then-next-parents c =
    sym (no_first_child c.args.parents.now c.requires.tree c.requires.short c.args.node (c.args.node + 1) (omega arith) c.requires.within (λ low _. absurd (omega (arith, low, c.if-next-parents.true))))

pub returns-then-parents-next : goal.returns-then-parents-next
returns-then-parents-next c =
    sym (is_first_child c.args.parents.now c.requires.tree c.requires.short c.args.node (c.args.node + 1) (omega arith) (omega (arith, c.requires.within, c.if-next-parents.false)) c.if-parents-next.true)

pub returns-else-parents-next : goal.returns-else-parents-next
returns-else-parents-next c =
    sym (no_first_child c.args.parents.now c.requires.tree c.requires.short c.args.node (c.args.node + 1) (omega arith) c.requires.within (λ _ same. c.if-parents-next.false same))
