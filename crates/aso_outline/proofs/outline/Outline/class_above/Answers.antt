use Rattle.std.proofs.Common.{◌≡◌, ◌∙◌, ◌<◌, ◌≤◌, List, ℕ, Some, ap, arith, subst, sym}
use Rattle.aso_tree.specs.Trees.{class_of, height}
use Rattle.aso_outline.specs.declared.seat.Seat.TheVariants.{Inner}
use Rattle.aso_outline.specs.Heights.{top_of}
use Rattle.aso_outline.specs.Members.{dim_at, parents_of, tree}
use Rattle.aso_outline.proofs.ClassLemmas.{class_below, classes_high, top_within}
use Rattle.aso_outline.proofs.Kept.{has_trees}
use Rattle.aso_outline.proofs.outline.Outline.class_above.Goals as goal

pub class_of-requires-clause-level : goal.class_of-requires-clause-level
class_of-requires-clause-level c =
    let o = c.args.self.now in
    let d = c.args.dim in
    let h = c.args.hier in
    let t = tree (dim_at o d) h in
    let trees = has_trees o c.keeps.ensures in
    let is : height c.tree_table.result.now.forest 0 ≡ height (parents_of t) 0 = ap (λ (qs : List ℕ). height qs 0) c.tree_table.ensures.forest in
    let most : top_of o d h ≤ height (parents_of t) 0 = top_within t (trees.tree (Inner d h 0)) (trees.short (Inner d h 0)) in
    omega (arith, is, most, c.requires.level)

pub returns-in-Some-clause-below : goal.returns-in-Some-clause-below
returns-in-Some-clause-below c =
    let o = c.args.self.now in
    let d = c.args.dim in
    let h = c.args.hier in
    let ps = parents_of (tree (dim_at o d) h) in
    let is : class_of ps c.args.level c.in-Some.place ≡ Some c.class_of.result = ap (λ (qs : List ℕ). class_of qs c.args.level c.in-Some.place) (sym c.tree_table.ensures.forest) ∙ c.class_of.ensures in
    subst (λ (k : ℕ). c.class_of.result < k) (sym (classes_high o d h c.args.level c.requires.above)) (class_below ps c.args.level c.in-Some.place c.class_of.result is)
