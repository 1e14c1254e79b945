use Rattle.std.proofs.Common.{◌≡◌, ◌∙◌, ◌<◌, List, Option, ℕ, ap, arith, get_or, length, sym}
use Rattle.std.proofs.lemmas.List.FromFn.{get_or-map-range_with_len, length-map-range_with_len}
use Rattle.aso_outline.specs.Classes.{leaf_count, shared_leaf}
use Rattle.aso_outline.specs.Members.{dim_at, tree}
use Rattle.aso_outline.proofs.ClassLemmas.{if_some, leaf_of_alternate, shared_below}
use Rattle.aso_outline.proofs.outline.Outline.other_leaf.Goals as goal

pub index-requires : goal.index-requires
index-requires c =
    let o = c.args.self.now in
    let d = c.args.dim in
    let h = c.args.hier in
    let t = tree (dim_at o d) h in
    let there = c.requires.there in
    let long : length c.tree_table-table.result.now.shared.items ≡ length t = ap length c.tree_table-table.ensures.shared ∙ length-map-range_with_len (shared_leaf o d h) 0 (length t) in
    omega (arith, c.tree_table-table.result.now.shared.ok, long, there.2)

pub returns-clause-value : goal.returns-clause-value
returns-clause-value c =
    let o = c.args.self.now in
    let d = c.args.dim in
    let h = c.args.hier in
    let t = tree (dim_at o d) h in
    let there = c.requires.there in
    let r : Option ℕ = c.index.result.now in
    c.index.ensures ∙ (ap (λ (xs : List (Option ℕ)). get_or xs c.args.at r) c.tree_table-table.ensures.shared
    ∙ (get_or-map-range_with_len (shared_leaf o d h) 0 (length t) c.args.at c.args.at r there.2 (omega arith) ∙ sym (leaf_of_alternate o d h c.args.at c.requires.alternate)))

pub returns-clause-below : goal.returns-clause-below
returns-clause-below c =
    let o = c.args.self.now in
    let d = c.args.dim in
    let h = c.args.hier in
    let t = tree (dim_at o d) h in
    let there = c.requires.there in
    let r : Option ℕ = c.index.result.now in
    let is : r ≡ shared_leaf o d h c.args.at =
    c.index.ensures ∙ (ap (λ (xs : List (Option ℕ)). get_or xs c.args.at r) c.tree_table-table.ensures.shared
    ∙ get_or-map-range_with_len (shared_leaf o d h) 0 (length t) c.args.at c.args.at r there.2 (omega arith)) in
    if_some (λ k. k < leaf_count o d) r (λ k e. shared_below o d h c.args.at k (e ∙ is))
