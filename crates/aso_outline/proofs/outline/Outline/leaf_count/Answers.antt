use Rattle.std.proofs.Common.{◌≡◌, ◌<◌, ◌≤◌, ◌^◌, ap, arith, length}
use Rattle.aso_outline.specs.declared.seat.Seat.TheVariants.{Inner}
use Rattle.aso_outline.specs.Classes.{leaf_count}
use Rattle.aso_outline.specs.Leaves.{is_data_place}
use Rattle.aso_outline.specs.Members.{dim_at, tree}
use Rattle.aso_outline.proofs.ClassLemmas.{passes_few}
use Rattle.aso_outline.proofs.Kept.{has_trees}
use Rattle.aso_outline.proofs.outline.Outline.leaf_count.Goals as goal

pub overflow_cast-result : goal.overflow_cast-result
overflow_cast-result c =
    let o = c.args.self.now in
    let d = c.args.dim in
    let t = tree (dim_at o d) 0 in
    let long : length c.dim_table-table.result.now.leaves.items ≡ leaf_count o d = ap length c.dim_table-table.ensures.leaves in
    let few : leaf_count o d ≤ length t = passes_few (is_data_place t) (length t) 0 in
    let short : length t < 2 ^ 32 = (has_trees o c.keeps.ensures).short (Inner d 0 0) in
    omega (arith, c.len.ensures, c.dim_table-table.result.now.leaves.ok, long, few, short)
