use Rattle.std.proofs.Common.{◌≡◌, ◌∙◌, ◌<◌, ◌-◌, sym, ap, arith, length, false}
use Rattle.aso_tree.specs.Trees.{is_under}
use Rattle.aso_tree.proofs.Preorder.{under_span}
use Rattle.aso_outline.specs.Members.{parents_of}
use Rattle.aso_outline.specs.Parents.{one_parent_each}
use Rattle.aso_axes.proofs.below.end_of.Goals as goal

pub returns-else-is_under-clause-places : goal.returns-else-is_under-clause-places
returns-else-is_under-clause-places c =
    let long = one_parent_each c.args.tree.now in
    let kept = c.loop-end.invariant in
    under_span (parents_of c.args.tree.now) c.requires.tree c.args.place c.loop-end.end kept.low (omega (arith, kept.fits, long)) kept.below (λ _. sym c.is_under.ensures ∙ c.if-is_under.false)

pub returns-after-loop-end-clause-places : goal.returns-after-loop-end-clause-places
returns-after-loop-end-clause-places c =
    let long = one_parent_each c.args.tree.now in
    let kept = c.loop-end.invariant in
    under_span (parents_of c.args.tree.now) c.requires.tree c.args.place c.loop-end.end kept.low (omega (arith, kept.fits, long)) kept.below (λ low. absurd (omega (arith, low, long, c.loop-end-test.false)))
