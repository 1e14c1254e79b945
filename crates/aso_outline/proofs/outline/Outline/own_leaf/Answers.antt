use Rattle.std.proofs.Common.{◌≡◌, ◌∙◌, ◌<◌, List, Option, ℕ, ap, arith, get_or, length}
use Rattle.std.proofs.lemmas.List.FromFn.{get_or-map-range_with_len, length-map-range_with_len}
use Rattle.aso_outline.specs.Classes.{leaf_count, leaf_ordinal}
use Rattle.aso_outline.specs.Members.{dim_at, tree}
use Rattle.aso_outline.proofs.ClassLemmas.{if_some, ordinal_below}
use Rattle.aso_outline.proofs.outline.Outline.own_leaf.Goals as goal

pub index-requires : goal.index-requires
index-requires c =
    let o = c.args.self.now in
    let d = c.args.dim in
    let t = tree (dim_at o d) 0 in
    let long : length c.dim_table-table.result.now.ordinals.items ≡ length t = ap length c.dim_table-table.ensures.ordinals ∙ length-map-range_with_len (leaf_ordinal o d) 0 (length t) in
    omega (arith, c.dim_table-table.result.now.ordinals.ok, long, c.requires.2)

pub returns-clause-value : goal.returns-clause-value
returns-clause-value c =
    let o = c.args.self.now in
    let d = c.args.dim in
    let t = tree (dim_at o d) 0 in
    let r : Option ℕ = c.index.result.now in
    c.index.ensures ∙ (ap (λ (xs : List (Option ℕ)). get_or xs c.args.at r) c.dim_table-table.ensures.ordinals
    ∙ get_or-map-range_with_len (leaf_ordinal o d) 0 (length t) c.args.at c.args.at r c.requires.2 (omega arith))

pub returns-clause-below : goal.returns-clause-below
returns-clause-below c =
    let o = c.args.self.now in
    let d = c.args.dim in
    let t = tree (dim_at o d) 0 in
    let r : Option ℕ = c.index.result.now in
    let is : r ≡ leaf_ordinal o d c.args.at =
    c.index.ensures ∙ (ap (λ (xs : List (Option ℕ)). get_or xs c.args.at r) c.dim_table-table.ensures.ordinals
    ∙ get_or-map-range_with_len (leaf_ordinal o d) 0 (length t) c.args.at c.args.at r c.requires.2 (omega arith)) in
    if_some (λ k. k < leaf_count o d) r (λ k e. ordinal_below t c.args.at k c.requires.2 (e ∙ is))
