use Rattle.std.proofs.Common.{◌≡◌, ◌+◌, ap, arith, length}
use Rattle.aso_outline.specs.Members.{attr_tree}
use Rattle.aso_outline.proofs.NumberLemmas.{before_next_attr, attrs_fit}
use Rattle.aso_outline.proofs.build.behind_attr.Goals as goal

pub overflow_add-result : goal.overflow_add-result
overflow_add-result c =
    let o = c.args.draft.now in
    let a = c.args.attr in
    let long : length c.sound_tree.result.now ≡ length (attr_tree o a) = ap length c.sound_tree.ensures.value in
    omega (arith, long, before_next_attr o a, attrs_fit o (a + 1) (omega (arith, c.requires.attr)), c.requires.first, c.requires.few)

pub returns : goal.returns
returns c =
    let o = c.args.draft.now in
    let a = c.args.attr in
    let long : length c.sound_tree.result.now ≡ length (attr_tree o a) = ap length c.sound_tree.ensures.value in
    omega (arith, long, before_next_attr o a, c.requires.first)
