use Rattle.std.proofs.Common.{◌≡◌, ◌∙◌, ◌+◌, List, ℕ, ap, arith, get_or, length}
use Rattle.std.proofs.lemmas.List.FromFn.{get_or-map-range_with_len, length-map-range_with_len}
use Rattle.aso_outline.specs.Leaves.{leaves_before}
use Rattle.aso_outline.specs.Members.{dim_at, tree}
use Rattle.aso_outline.proofs.outline.Outline.leaves_before.Goals as goal

pub index-requires : goal.index-requires
index-requires c =
    let t = tree (dim_at c.args.self.now c.args.dim) 0 in
    let long : length c.dim_table-table.result.now.counts.items ≡ length t + 1 = ap length c.dim_table-table.ensures.counts ∙ length-map-range_with_len (leaves_before t) 0 (length t + 1) in
    omega (arith, c.dim_table-table.result.now.counts.ok, long, c.requires.place)

pub returns : goal.returns
returns c =
    let t = tree (dim_at c.args.self.now c.args.dim) 0 in
    let r : ℕ = c.index.result.now in
    c.index.ensures ∙ (ap (λ (xs : List ℕ). get_or xs c.args.place r) c.dim_table-table.ensures.counts
    ∙ get_or-map-range_with_len (leaves_before t) 0 (length t + 1) c.args.place c.args.place r (omega (arith, c.requires.place)) (omega arith))
