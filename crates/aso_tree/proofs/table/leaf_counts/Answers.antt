use Rattle.std.proofs.Common.{◌≡◌, ◌∙◌, ◌+◌, ap, sym, arith, length, length-append}
use Rattle.std.proofs.lemmas.Grind.{common_steps}
use Rattle.std.specs.List.{filter, range_with_len}
use Rattle.aso_tree.specs.Trees.{is_leaf, leaves_before}
use Rattle.aso_tree.proofs.Paths.{map_push, filter_range_push}
use Rattle.aso_tree.proofs.table.leaf_counts.Goals as goal

pub loop-node-preserved : goal.loop-node-preserved
loop-node-preserved c =
    let parents = c.args.parents.now in
    let node = c.loop-node.node in
    let counts = map_push (leaves_before parents) (node + 1) in
    let more : leaves_before parents (node + 1) ≡ leaves_before parents node + c.leaf_weight-count.result =
    ap length (filter_range_push (is_leaf parents) node) ∙ (length-append (filter (is_leaf parents) (range_with_len 0 node)) _ ∙ ap (λ n. leaves_before parents node + n) (sym c.leaf_weight-count.ensures.value)) in
    grind (arith, common_steps, counts, more)
