use Rattle.std.proofs.Common.{◌≡◌, ◌∙◌, length, ap, arith}
use Rattle.std.proofs.lemmas.Grind.{common_steps}
use Rattle.std.specs.List.{filter, range_with_len}
use Rattle.aso_tree.specs.Levels.{is_class}
use Rattle.aso_tree.specs.Trees.{class_number, classes}
use Rattle.aso_tree.proofs.Paths.{map_push, filter_range_push}
use Rattle.aso_tree.proofs.level.level_of.Goals as goal

pub loop-node-preserved : goal.loop-node-preserved
loop-node-preserved c =
    let numbers = map_push (class_number c.args.parents.now c.args.level) c.loop-node.node in
    let classes = filter_range_push (is_class c.args.parents.now c.args.level) c.loop-node.node in
    grind (arith, common_steps, numbers, classes)

pub returns-clause-count : goal.returns-clause-count
unfolding classes
returns-clause-count c =
    let parents = c.args.parents.now in
    let end : c.loop-node.node ≡ length parents = omega arith in
    c.loop-node.invariant.count ∙ ap (λ n. length (filter (is_class parents c.args.level) (range_with_len 0 n))) end
