use Rattle.std.proofs.Common.{◌≡◌, ◌∙◌, ◌≤◌, ℕ, List, ap, arith, length}
use Rattle.aso_tree.specs.Trees.{height}
use Rattle.aso_outline.specs.declared.seat.Seat.TheVariants.{Inner}
use Rattle.aso_outline.specs.Members.{dim_at, parents_of, tree}
use Rattle.aso_outline.specs.Parents.{one_parent_each}
use Rattle.aso_outline.proofs.Kept.{has_trees}
use Rattle.aso_outline.proofs.Nexts.{height_bound}
use Rattle.aso_outline.proofs.Rooted.{kept_trees}
use Rattle.aso_outline.proofs.outline.Outline.root_height.Goals as goal

pub height-requires : goal.height-requires
height-requires c =
    let o = c.args.self.now in
    omega (arith, ap length c.tree_table.ensures.forest, one_parent_each (tree (dim_at o c.args.dim) c.args.hier), (kept_trees o c.keeps.ensures).trees c.args.dim c.args.hier c.requires.dim c.requires.hier)

pub returns-clause-bound : goal.returns-clause-bound
returns-clause-bound c =
    let o = c.args.self.now in
    let ps = parents_of (tree (dim_at o c.args.dim) c.args.hier) in
    let is : c.height.result ≡ height ps 0 = c.height.ensures ∙ ap (λ (qs : List ℕ). height qs 0) c.tree_table.ensures.forest in
    let most : height ps 0 ≤ 31 = height_bound ps ((has_trees o c.keeps.ensures).tree (Inner c.args.dim c.args.hier 0)) 0 in
    omega (arith, is, most)
