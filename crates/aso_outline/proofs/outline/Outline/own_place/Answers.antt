use Rattle.std.proofs.Common.{◌≡◌, ◌∙◌, ◌+◌, ◌<◌, List, ℕ, ap, arith, get_or, length}
use Rattle.aso_outline.specs.Leaves.{is_data_place}
use Rattle.aso_outline.specs.Members.{data_leaves, dim_at, tree}
use Rattle.aso_outline.proofs.ClassLemmas.{passes_there}
use Rattle.aso_outline.proofs.TableLemmas.{passes_within}
use Rattle.aso_outline.proofs.outline.Outline.own_place.Goals as goal

pub returns-clause-within : goal.returns-clause-within
returns-clause-within c =
    let o = c.args.self.now in
    let d = c.args.dim in
    let t = tree (dim_at o d) 0 in
    let r : ℕ = c.index.result.now in
    let at : r ≡ get_or (data_leaves (dim_at o d)) c.args.leaf r = c.index.ensures ∙ ap (λ (xs : List ℕ). get_or xs c.args.leaf r) c.dim_table-table.ensures.leaves in
    let low : get_or (data_leaves (dim_at o d)) c.args.leaf r < 0 + length t = passes_within (is_data_place t) (length t) 0 c.args.leaf r c.requires.leaf in
    omega (arith, at, low)

pub returns-clause-leaf : goal.returns-clause-leaf
returns-clause-leaf c =
    let o = c.args.self.now in
    let d = c.args.dim in
    let t = tree (dim_at o d) 0 in
    let r : ℕ = c.index.result.now in
    let at : r ≡ get_or (data_leaves (dim_at o d)) c.args.leaf r = c.index.ensures ∙ ap (λ (xs : List ℕ). get_or xs c.args.leaf r) c.dim_table-table.ensures.leaves in
    ap (is_data_place t) at ∙ passes_there (is_data_place t) (length t) 0 c.args.leaf r c.requires.leaf
