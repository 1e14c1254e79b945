use Rattle.std.proofs.Common.{◌∙◌, length, arith, ap, sym, subst, refl}
use Rattle.aso_tree.specs.Trees.{next_child, under}
use Rattle.aso_tree.proofs.Children.{is_next_child, no_next_child, root_is_last, rises}
use Rattle.aso_tree.proofs.Ends.{ends_by_count, EndsAt}
use Rattle.aso_tree.proofs.child.next_child.Goals as goal

pub returns-then-node-eq0 : goal.returns-then-node-eq0
returns-then-node-eq0 c =
    sym (ap (next_child c.args.parents.now) c.if-node-eq0.true ∙ root_is_last c.args.parents.now c.requires.tree c.requires.short (omega (arith, c.requires.within)))

pub returns-then-end-parents : goal.returns-then-end-parents
returns-then-end-parents c =
    let parents = c.args.parents.now in
    let node = c.args.node in
    let here = subst (λ e. EndsAt parents c.requires.tree node e) (sym c.end_of-end.ensures.end) (ends_by_count parents c.requires.tree node (length (under parents node)) c.requires.within refl) in
    let low = rises parents c.requires.tree c.requires.short node (omega (arith, c.if-node-eq0.false)) c.requires.within in
    sym (no_next_child parents c.requires.tree c.requires.short node low c.end_of-end.result here (λ within _. absurd (omega (arith, within, c.if-end-parents.true))))

pub returns-then-parents-end : goal.returns-then-parents-end
returns-then-parents-end c =
    let parents = c.args.parents.now in
    let node = c.args.node in
    let here = subst (λ e. EndsAt parents c.requires.tree node e) (sym c.end_of-end.ensures.end) (ends_by_count parents c.requires.tree node (length (under parents node)) c.requires.within refl) in
    let low = rises parents c.requires.tree c.requires.short node (omega (arith, c.if-node-eq0.false)) c.requires.within in
    sym (is_next_child parents c.requires.tree c.requires.short node low c.end_of-end.result here (omega (arith, c.end_of-end.ensures.fits, c.if-end-parents.false)) c.if-parents-end.true)

pub returns-else-parents-end : goal.returns-else-parents-end
returns-else-parents-end c =
    let parents = c.args.parents.now in
    let node = c.args.node in
    let here = subst (λ e. EndsAt parents c.requires.tree node e) (sym c.end_of-end.ensures.end) (ends_by_count parents c.requires.tree node (length (under parents node)) c.requires.within refl) in
    let low = rises parents c.requires.tree c.requires.short node (omega (arith, c.if-node-eq0.false)) c.requires.within in
    sym (no_next_child parents c.requires.tree c.requires.short node low c.end_of-end.result here (λ _ same. c.if-parents-end.false same))
