use Rattle.std.proofs.Common.{◌≡◌, ◌<◌, ◌≤◌, List, ℕ, Some, ap, arith, length, subst, sym}
use Rattle.aso_tree.specs.Trees.{class_count, class_of, height, is_under}
use Rattle.aso_outline.specs.Classes.{is_in}
use Rattle.aso_outline.specs.Members.{dim_at, parents_of, tree}
use Rattle.aso_outline.specs.Parents.{one_parent_each}
use Rattle.aso_outline.proofs.ClassLemmas.{classes_high}
use Rattle.aso_outline.proofs.LeafRows.{in_range_above}
use Rattle.aso_outline.proofs.Rooted.{kept_names, kept_sharing}
use Rattle.aso_outline.proofs.outline.Outline.range_above.Goals as goal

pub class_range-requires-clause-within : goal.class_range-requires-clause-within
class_range-requires-clause-within c =
    omega (arith, ap length c.tree_table.ensures.forest, one_parent_each (tree (dim_at c.args.self.now c.args.dim) c.args.hier), c.requires.there.2)

pub class_range-requires-clause-level : goal.class_range-requires-clause-level
class_range-requires-clause-level c = subst (λ (qs : List ℕ). c.args.level ≤ height qs c.args.at) (sym c.tree_table.ensures.forest) c.requires.level

pub returns-clause-exactly : goal.returns-clause-exactly
returns-clause-exactly c leaf class low has =
    let o = c.args.self.now in
    let d = c.args.dim in
    let kept = c.keeps.ensures in
    in_range_above o (kept_names o kept) (kept_sharing o kept) d c.requires.there.0 (omega (arith, c.requires.there.1)) leaf low c.args.hier c.args.at c.args.level class c.class_range.result c.requires.there.1 c.requires.above c.requires.stored
    (subst (λ (qs : List ℕ). (k n : ℕ) → k < length qs → class_of qs c.args.level k ≡ Some n → is_in c.class_range.result n ≡ is_under qs c.args.at k) c.tree_table.ensures.forest c.class_range.ensures.exactly) has

pub returns-clause-in_order : goal.returns-clause-in_order
returns-clause-in_order c = let less = c.class_range.ensures.in_order in omega (arith, less)

pub returns-clause-within : goal.returns-clause-within
returns-clause-within c =
    let o = c.args.self.now in
    let most : c.class_range.result.1 ≤ class_count (parents_of (tree (dim_at o c.args.dim) c.args.hier)) c.args.level = subst (λ (qs : List ℕ). c.class_range.result.1 ≤ class_count qs c.args.level) c.tree_table.ensures.forest c.class_range.ensures.within in
    omega (arith, most, classes_high o c.args.dim c.args.hier c.args.level c.requires.above)
