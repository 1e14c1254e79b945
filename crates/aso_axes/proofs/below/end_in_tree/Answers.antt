use Rattle.std.proofs.Common.{arith}
use Rattle.aso_axes.proofs.BelowLemmas.{bound_of_end, members_to_end}
use Rattle.aso_axes.proofs.below.end_in_tree.Goals as goal

pub overflow_add-result : goal.overflow_add-result
overflow_add-result c =
    omega (arith, bound_of_end c.args.outline.now c.args.m c.args.seat c.tree-tree.result.now c.place_of-place.result c.end_of-end.result c.requires.number c.tree-tree.ensures.value c.place_of-place.ensures c.requires.there c.end_of-end.ensures.above c.end_of-end.ensures.bound, c.keeps_counts.ensures.few_members)

pub returns-clause-members : goal.returns-clause-members
returns-clause-members c =
    members_to_end c.args.outline.now c.args.m c.args.seat c.tree-tree.result.now c.place_of-place.result c.end_of-end.result c.requires.number c.tree-tree.ensures.value c.place_of-place.ensures c.requires.placed c.end_of-end.ensures.places

pub returns-clause-bound : goal.returns-clause-bound
returns-clause-bound c =
    bound_of_end c.args.outline.now c.args.m c.args.seat c.tree-tree.result.now c.place_of-place.result c.end_of-end.result c.requires.number c.tree-tree.ensures.value c.place_of-place.ensures c.requires.there c.end_of-end.ensures.above c.end_of-end.ensures.bound
