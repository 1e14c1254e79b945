use Rattle.std.proofs.Common.{◌≡◌, ◌≤◌, List, ℕ, ap, arith}
use Rattle.aso_tree.specs.Trees.{height}
use Rattle.aso_outline.specs.declared.seat.Seat.TheVariants.{Inner}
use Rattle.aso_outline.specs.Heights.{top_of}
use Rattle.aso_outline.specs.Members.{dim_at, parents_of, tree}
use Rattle.aso_outline.proofs.ClassLemmas.{top_within}
use Rattle.aso_outline.proofs.Kept.{has_trees}
use Rattle.aso_outline.proofs.outline.Outline.count_above.Goals as goal

pub classes-requires : goal.classes-requires
classes-requires c =
    let o = c.args.self.now in
    let d = c.args.dim in
    let h = c.args.hier in
    let t = tree (dim_at o d) h in
    let trees = has_trees o c.keeps.ensures in
    let is : height c.tree_table.result.now.forest 0 ≡ height (parents_of t) 0 = ap (λ (qs : List ℕ). height qs 0) c.tree_table.ensures.forest in
    let most : top_of o d h ≤ height (parents_of t) 0 = top_within t (trees.tree (Inner d h 0)) (trees.short (Inner d h 0)) in
    omega (arith, is, most, c.requires.level)
