use Rattle.std.proofs.Common.{arith}
use Rattle.aso_outline.proofs.NumberLemmas.{before_first_hier, hiers_fit}
use Rattle.aso_outline.proofs.build.first_root.Goals as goal

pub overflow_add-result : goal.overflow_add-result
overflow_add-result c =
    let o = c.args.draft.now in
    let d = c.args.dim in
    omega (arith, before_first_hier o d, hiers_fit o d 0 c.requires.dim (omega arith), c.whole_count.ensures, c.requires.first, c.requires.few)

pub returns : goal.returns
returns c = omega (arith, before_first_hier c.args.draft.now c.args.dim, c.whole_count.ensures, c.requires.first)
