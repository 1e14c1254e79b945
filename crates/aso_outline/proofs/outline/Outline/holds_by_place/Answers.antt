use Rattle.std.proofs.Common.{◌∙◌, ◌≤◌, List, Option, ℕ, false, ap, arith, length, sym}
use Rattle.std.specs.Prelude.{unwrap_or}
use Rattle.std.specs.Option.{option_map}
use Rattle.aso_tree.specs.Trees.{is_under}
use Rattle.aso_outline.specs.Members.{dim_at, parents_of, tree}
use Rattle.aso_outline.specs.Parents.{one_parent_each}
use Rattle.aso_outline.proofs.HoldLemmas.{held}
use Rattle.aso_outline.proofs.Rooted.{kept_names, kept_sharing, kept_trees}
use Rattle.aso_outline.proofs.outline.Outline.holds_by_place.Goals as goal

pub is_under-requires : goal.is_under-requires
is_under-requires c =
    let t = tree (dim_at c.args.self.now c.args.dim) c.args.hier in
    omega (arith, c.in-Some.ensures.within, ap length c.tree_table.ensures.forest, one_parent_each t)

pub returns-in-Some : goal.returns-in-Some
returns-in-Some c =
    let o = c.args.self.now in
    let d = c.args.dim in
    let h = c.args.hier in
    let i = c.args.at in
    let kept = c.keeps.ensures in
    let there = c.requires.there in
    let some : 1 ≤ length (dim_at o d).hiers = (kept_trees o kept).some_hier d there.0 in
    let ps = parents_of (tree (dim_at o d) h) in
    c.is_under.ensures ∙ (ap (λ (qs : List ℕ). is_under qs i c.in-Some.place) c.tree_table.ensures.forest
    ∙ (ap (λ (x : Option ℕ). unwrap_or (option_map (is_under ps i) x) false) c.in-Some.ensures.value
    ∙ sym (held o (kept_names o kept) (kept_sharing o kept) d there.0 c.args.leaf c.requires.leaf (omega (arith, some)) h i there.1 c.requires.stored)))

pub returns-in-None : goal.returns-in-None
returns-in-None c =
    let o = c.args.self.now in
    let d = c.args.dim in
    let h = c.args.hier in
    let i = c.args.at in
    let kept = c.keeps.ensures in
    let there = c.requires.there in
    let some : 1 ≤ length (dim_at o d).hiers = (kept_trees o kept).some_hier d there.0 in
    let ps = parents_of (tree (dim_at o d) h) in
    ap (λ (x : Option ℕ). unwrap_or (option_map (is_under ps i) x) false) c.in-None.ensures.value
    ∙ sym (held o (kept_names o kept) (kept_sharing o kept) d there.0 c.args.leaf c.requires.leaf (omega (arith, some)) h i there.1 c.requires.stored)
