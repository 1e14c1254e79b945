use Rattle.std.proofs.Common.{◌≡◌, ◌≤◌, ◌+◌, length, arith, ap, refl}
use Rattle.std.specs.Prelude.{slice_index}
use Rattle.aso_tree.specs.Trees.{under}
use Rattle.aso_tree.proofs.Ends.{ends_by_count}
use Rattle.aso_tree.proofs.Rows.{in_list, at_list}
use Rattle.aso_tree.proofs.table.end_of.Goals as goal

pub bounds-spans-node : goal.bounds-spans-node
bounds-spans-node c = in_list (λ i. length (under c.args.parents.now i)) c.args.spans.now (length c.args.parents.now) c.requires.spans c.args.node c.requires.within

pub overflow_add-result : goal.overflow_add-result
overflow_add-result c =
    let parents = c.args.parents.now in
    let span : slice_index c.args.spans.now c.args.node ≡ length (under parents c.args.node) = at_list (λ i. length (under parents i)) c.args.spans.now (length parents) c.requires.spans c.args.node c.requires.within 0 in
    let fits : c.args.node + length (under parents c.args.node) ≤ length parents = (ends_by_count parents c.requires.tree c.args.node (length (under parents c.args.node)) c.requires.within refl).fits in
    omega (arith, span, fits, c.requires.short)

pub returns-clause-end : goal.returns-clause-end
returns-clause-end c =
    let parents = c.args.parents.now in
    ap (λ n. c.args.node + n) (at_list (λ i. length (under parents i)) c.args.spans.now (length parents) c.requires.spans c.args.node c.requires.within 0)

pub returns-clause-fits : goal.returns-clause-fits
returns-clause-fits c =
    let parents = c.args.parents.now in
    let span : slice_index c.args.spans.now c.args.node ≡ length (under parents c.args.node) = at_list (λ i. length (under parents i)) c.args.spans.now (length parents) c.requires.spans c.args.node c.requires.within 0 in
    let fits : c.args.node + length (under parents c.args.node) ≤ length parents = (ends_by_count parents c.requires.tree c.args.node (length (under parents c.args.node)) c.requires.within refl).fits in
    omega (arith, span, fits)
