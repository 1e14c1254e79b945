use Rattle.std.proofs.Common.{◌≡◌, ◌∙◌, ◌<◌, List, Option, ℕ, true, ap, arith, get_or, length, sym}
use Rattle.std.proofs.lemmas.List.FromFn.{get_or-map-range_with_len, length-map-range_with_len}
use Rattle.aso_tree.specs.Trees.{is_leaf}
use Rattle.aso_outline.specs.Classes.{leaf_count, sharer_of}
use Rattle.aso_outline.specs.Members.{dim_at, parents_of, tree}
use Rattle.aso_outline.specs.Rules.{shares}
use Rattle.aso_outline.proofs.ClassLemmas.{if_some, leaf_place_alternate, sharer_is_leaf, sharer_place}
use Rattle.aso_outline.proofs.Nexts.{position_within}
use Rattle.aso_outline.proofs.Rooted.{kept_sharing}
use Rattle.aso_outline.proofs.outline.Outline.sharer.Goals as goal

pub index-requires : goal.index-requires
index-requires c =
    let o = c.args.self.now in
    let d = c.args.dim in
    let h = c.args.hier in
    let long : length c.tree_table-table.result.now.sharers.items ≡ leaf_count o d = ap length c.tree_table-table.ensures.sharers ∙ length-map-range_with_len (sharer_of o d h) 0 (leaf_count o d) in
    omega (arith, c.tree_table-table.result.now.sharers.ok, long, c.requires.leaf)

pub returns-clause-value : goal.returns-clause-value
returns-clause-value c =
    let o = c.args.self.now in
    let d = c.args.dim in
    let h = c.args.hier in
    let r : Option ℕ = c.index.result.now in
    c.index.ensures ∙ (ap (λ (xs : List (Option ℕ)). get_or xs c.args.leaf r) c.tree_table-table.ensures.sharers
    ∙ (get_or-map-range_with_len (sharer_of o d h) 0 (leaf_count o d) c.args.leaf c.args.leaf r c.requires.leaf (omega arith) ∙ sym (leaf_place_alternate o d h c.args.leaf c.requires.alternate)))

pub returns-clause-within : goal.returns-clause-within
returns-clause-within c =
    let o = c.args.self.now in
    let d = c.args.dim in
    let h = c.args.hier in
    let t = tree (dim_at o d) h in
    let r : Option ℕ = c.index.result.now in
    let is : r ≡ sharer_of o d h c.args.leaf =
    c.index.ensures ∙ (ap (λ (xs : List (Option ℕ)). get_or xs c.args.leaf r) c.tree_table-table.ensures.sharers
    ∙ get_or-map-range_with_len (sharer_of o d h) 0 (leaf_count o d) c.args.leaf c.args.leaf r c.requires.leaf (omega arith)) in
    if_some (λ k. k < length t) r (λ k e. let found = sharer_place o d h c.args.leaf k (e ∙ is) in position_within (shares found.0) t k found.1)

pub returns-clause-leaf : goal.returns-clause-leaf
returns-clause-leaf c =
    let o = c.args.self.now in
    let d = c.args.dim in
    let h = c.args.hier in
    let t = tree (dim_at o d) h in
    let r : Option ℕ = c.index.result.now in
    let is : r ≡ sharer_of o d h c.args.leaf =
    c.index.ensures ∙ (ap (λ (xs : List (Option ℕ)). get_or xs c.args.leaf r) c.tree_table-table.ensures.sharers
    ∙ get_or-map-range_with_len (sharer_of o d h) 0 (leaf_count o d) c.args.leaf c.args.leaf r c.requires.leaf (omega arith)) in
    if_some (λ k. is_leaf (parents_of t) k ≡ true) r (λ k e. sharer_is_leaf o (kept_sharing o c.keeps.ensures) d h c.args.leaf k (e ∙ is))
