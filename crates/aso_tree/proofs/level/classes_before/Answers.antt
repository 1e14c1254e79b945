use Rattle.std.proofs.Common.{◌≡◌, ◌∙◌, ◌≤◌, length, arith}
use Rattle.aso_tree.specs.Trees.{height}
use Rattle.aso_tree.proofs.ClassRanges.{none_left, number_there}
use Rattle.aso_tree.proofs.level.classes_before.Goals as goal

pub returns-then-height_at-level : goal.returns-then-height_at-level
returns-then-height_at-level c =
    let parents = c.args.parents.now in
    let low : height parents c.loop-node.node ≤ c.args.level = omega (arith, c.height_at.ensures, c.if-height_at-level.true) in
    c.number_at.ensures
    ∙ number_there parents c.requires.tree c.requires.short c.args.level c.args.place c.loop-node.node (omega (arith, c.loop-node.auto.node)) (omega (arith, c.loop-node-test.true, c.requires.short)) c.requires.outside c.loop-node.invariant low

pub returns : goal.returns
returns c =
    let parents = c.args.parents.now in
    let end : c.loop-node.node ≡ length parents = omega (arith, c.loop-node-test.false, c.loop-node.auto.node-end, c.requires.within, c.requires.short) in
    c.class_count.ensures
    ∙ none_left parents c.requires.tree c.requires.short c.args.level c.args.place c.loop-node.node c.requires.within end c.loop-node.invariant
