use Rattle.std.proofs.Common.{◌≡◌, ◌+◌, ap, arith, length}
use Rattle.aso_outline.specs.Members.{dim_at, tree}
use Rattle.aso_outline.proofs.NumberLemmas.{before_next_hier, hiers_fit}
use Rattle.aso_outline.proofs.build.behind_hier.Goals as goal

pub overflow_add-result : goal.overflow_add-result
overflow_add-result c =
    let o = c.args.draft.now in
    let d = c.args.dim in
    let h = c.args.hier in
    let long : length c.sound_tree.result.now ≡ length (tree (dim_at o d) h) = ap length c.sound_tree.ensures.value in
    omega (arith, long, before_next_hier o d h, hiers_fit o d (h + 1) c.requires.dim (omega (arith, c.requires.hier)), c.requires.first, c.requires.few)

pub returns : goal.returns
returns c =
    let o = c.args.draft.now in
    let d = c.args.dim in
    let h = c.args.hier in
    let long : length c.sound_tree.result.now ≡ length (tree (dim_at o d) h) = ap length c.sound_tree.ensures.value in
    omega (arith, long, before_next_hier o d h, c.requires.first)
