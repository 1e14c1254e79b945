use Rattle.std.proofs.Common.{◌≤◌, ℕ, List, arith, subst}
use Rattle.aso_tree.specs.Trees.{class_count}
use Rattle.aso_outline.specs.Members.{dim_at, parents_of, tree}
use Rattle.aso_outline.proofs.ClassLemmas.{classes_high}
use Rattle.aso_outline.proofs.outline.Outline.keeps_fewer_above.Goals as goal

pub returns : goal.returns
returns c =
    let o = c.args.self.now in
    let d = c.args.dim in
    let h = c.args.hier in
    let ps = parents_of (tree (dim_at o d) h) in
    let most : class_count ps c.args.coarse ≤ class_count ps c.args.fine = subst (λ (qs : List ℕ). class_count qs c.args.coarse ≤ class_count qs c.args.fine) c.tree_table.ensures.forest c.keeps_fewer.ensures in
    omega (arith, most, classes_high o d h c.args.coarse (omega (arith, c.requires.above, c.requires.coarser)), classes_high o d h c.args.fine c.requires.above)
