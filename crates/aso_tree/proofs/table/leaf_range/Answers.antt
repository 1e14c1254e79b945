use Rattle.std.proofs.Common.{◌∙◌, ◌≤◌, length, arith, ap, subst, sym, refl}
use Rattle.std.specs.Prelude.{slice_range}
use Rattle.aso_tree.specs.Trees.{leaves, leaves_before, under}
use Rattle.aso_tree.proofs.Ends.{ends_by_count, EndsAt}
use Rattle.aso_tree.proofs.LeafRanges.{leaf_range_is, leaf_range_in_order, leaf_range_fits}
use Rattle.aso_tree.proofs.table.leaf_range.Goals as goal

pub returns-clause-leaves : goal.returns-clause-leaves
returns-clause-leaves c =
    let parents = c.args.parents.now in
    let node = c.args.node in
    let here = subst (λ e. EndsAt parents c.requires.tree node e) (sym c.end_of-end.ensures.end) (ends_by_count parents c.requires.tree node (length (under parents node)) c.requires.within refl) in
    ap (λ n. slice_range (leaves parents) n c.count_at-2.result) c.count_at.ensures
    ∙ (ap (slice_range (leaves parents) (leaves_before parents node)) c.count_at-2.ensures ∙ leaf_range_is parents c.requires.tree node c.end_of-end.result here)

pub returns-clause-in_order : goal.returns-clause-in_order
returns-clause-in_order c =
    let parents = c.args.parents.now in
    let node = c.args.node in
    let here = subst (λ e. EndsAt parents c.requires.tree node e) (sym c.end_of-end.ensures.end) (ends_by_count parents c.requires.tree node (length (under parents node)) c.requires.within refl) in
    let le : leaves_before parents node ≤ leaves_before parents c.end_of-end.result = leaf_range_in_order parents c.requires.tree node c.end_of-end.result here in
    omega (arith, le, c.count_at.ensures, c.count_at-2.ensures)

pub returns-clause-within : goal.returns-clause-within
returns-clause-within c =
    let parents = c.args.parents.now in
    let node = c.args.node in
    let here = subst (λ e. EndsAt parents c.requires.tree node e) (sym c.end_of-end.ensures.end) (ends_by_count parents c.requires.tree node (length (under parents node)) c.requires.within refl) in
    let le : leaves_before parents c.end_of-end.result ≤ length (leaves parents) = leaf_range_fits parents c.requires.tree node c.end_of-end.result here in
    omega (arith, le, c.count_at-2.ensures)
