use Rattle.std.proofs.Common.{◌≡◌, ◌∙◌, ◌+◌, ◌<◌, ◌≤◌, List, ℕ, ap, arith, length, refl, subst, sym}
use Rattle.aso_tree.specs.Trees.{under, IsTree}
use Rattle.aso_tree.proofs.ClassRanges.{before_le, passing_in_order}
use Rattle.aso_tree.proofs.Ends.{ends_by_count, EndsAt}
use Rattle.aso_outline.specs.declared.draft.Draft.{Draft}
use Rattle.aso_outline.specs.declared.seat.Seat.TheVariants.{Inner}
use Rattle.aso_outline.specs.Classes.{is_in, leaf_count}
use Rattle.aso_outline.specs.Leaves.{is_data_place, leaves_before}
use Rattle.aso_outline.specs.Members.{dim_at, parents_of, tree}
use Rattle.aso_outline.specs.Parents.{one_parent_each}
use Rattle.aso_outline.proofs.Kept.{has_trees}
use Rattle.aso_outline.proofs.LeafRows.{in_leaf_range}
use Rattle.aso_outline.proofs.Rooted.{kept_names, kept_sharing}
use Rattle.aso_outline.proofs.outline.Outline.leaf_range.Goals as goal

behind : (o : Draft) (d at end : ℕ) (is_tree : IsTree (parents_of (tree (dim_at o d) 0))) (qs : List ℕ) → qs ≡ parents_of (tree (dim_at o d) 0) → at < length (tree (dim_at o d) 0) → end ≡ at + length (under qs at) → EndsAt (parents_of (tree (dim_at o d) 0)) is_tree at end
behind o d at end is_tree qs same low is =
    let ps = parents_of (tree (dim_at o d) 0) in
    subst (λ e. EndsAt ps is_tree at e) (sym (is ∙ ap (λ (xs : List ℕ). at + length (under xs at)) same)) (ends_by_count ps is_tree at (length (under ps at)) (omega (arith, low, one_parent_each (tree (dim_at o d) 0))) refl)

pub end-end-requires : goal.end-end-requires
end-end-requires c =
    let o = c.args.self.now in
    omega (arith, ap length c.tree_table.ensures.forest, one_parent_each (tree (dim_at o c.args.dim) 0), c.requires.2)

pub leaves_before-requires-2-clause-place : goal.leaves_before-requires-2-clause-place
leaves_before-requires-2-clause-place c =
    let o = c.args.self.now in
    omega (arith, c.end-end.ensures.fits, ap length c.tree_table.ensures.forest, one_parent_each (tree (dim_at o c.args.dim) 0))

pub returns-clause-exactly : goal.returns-clause-exactly
returns-clause-exactly c leaf low =
    let o = c.args.self.now in
    let d = c.args.dim in
    let kept = c.keeps.ensures in
    let is_tree = (has_trees o kept).tree (Inner d 0 0) in
    let ends = behind o d c.args.at c.end-end.result is_tree c.tree_table.result.now.forest c.tree_table.ensures.forest c.requires.2 c.end-end.ensures.value in
    ap (λ (n : ℕ). is_in (n, c.leaves_before-2.result) leaf) c.leaves_before.ensures
    ∙ (ap (λ (n : ℕ). is_in (leaves_before (tree (dim_at o d) 0) c.args.at, n) leaf) c.leaves_before-2.ensures
    ∙ in_leaf_range o (kept_names o kept) (kept_sharing o kept) d c.requires.0 (omega (arith, c.requires.1)) leaf low c.args.at c.end-end.result is_tree ends)

pub returns-clause-in_order : goal.returns-clause-in_order
returns-clause-in_order c =
    let o = c.args.self.now in
    let d = c.args.dim in
    let kept = c.keeps.ensures in
    let is_tree = (has_trees o kept).tree (Inner d 0 0) in
    let t = tree (dim_at o d) 0 in
    let ends = behind o d c.args.at c.end-end.result is_tree c.tree_table.result.now.forest c.tree_table.ensures.forest c.requires.2 c.end-end.ensures.value in
    let le = passing_in_order (parents_of t) is_tree c.args.at c.end-end.result ends (is_data_place t) in
    omega (arith, le, c.leaves_before.ensures, c.leaves_before-2.ensures)

pub returns-clause-within : goal.returns-clause-within
returns-clause-within c =
    let o = c.args.self.now in
    let d = c.args.dim in
    let t = tree (dim_at o d) 0 in
    let fits : c.end-end.result ≤ length t = omega (arith, c.end-end.ensures.fits, ap length c.tree_table.ensures.forest, one_parent_each t) in
    let le : leaves_before t c.end-end.result ≤ leaf_count o d = before_le (is_data_place t) c.end-end.result (length t) fits in
    omega (arith, le, c.leaves_before-2.ensures)
