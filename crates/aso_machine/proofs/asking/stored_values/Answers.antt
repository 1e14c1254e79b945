use Rattle.std.proofs.Common.{◌≡◌, ◌++◌, ◌∷◌, ◌∙◌, [], take, map, ap, sym, subst, rules}
use Rattle.std.specs.Prelude.{ℤ}
use Rattle.std.proofs.lemmas.Bool.{and_parts}
use Rattle.aso_cellnames.specs.Leaves.{leaf_counts}
use Rattle.aso_spec.specs.Cells.{Cells, Key}
use Rattle.aso_sums.specs.Summing.{AreLeaves, HasSums}
use Rattle.aso_machine.specs.State.{entry}
use Rattle.aso_machine.proofs.SumLemmas.{are_a_cells, cell_there, entries_more}
use Rattle.aso_machine.proofs.asking.stored_values.Goals as goal

pub add-requires-clause-leaves : goal.add-requires-clause-leaves
add-requires-clause-leaves c =
    let counts = leaf_counts c.args.outline.now in
    let is = cell_there counts c.args.cells.now c.loop-cell.cell-index c.cell-item.result c.requires c.loop-cell-test.true c.cell-item.is in
    subst (AreLeaves c.args.outline.now) (sym c.items.ensures) (are_a_cells c.args.outline.now c.cell-item.result.leaves (and_parts _ _ is).0)

pub loop-cell-preserved : goal.loop-cell-preserved
loop-cell-preserved c =
    let o = c.args.outline.now in
    let tuples = c.args.tuples.now in
    let before = map entry (take c.loop-cell.cell-index c.args.cells.now) in
    let added = c.in_ok-add.ensures.added tuples before c.loop-cell.invariant in
    let amount : c.amount_of.result ≡ c.cell-item.result.amount = search rules in
    let same : before ++ (c.items.result.now, c.amount_of.result) ∷ [] ≡ before ++ entry c.cell-item.result ∷ [] =
    ap (λ (key : Key). before ++ (key, c.amount_of.result) ∷ []) c.items.ensures ∙ ap (λ (z : ℤ). before ++ (c.cell-item.result.leaves, z) ∷ []) amount in
    subst (λ (cells : Cells). HasSums o tuples cells c.add.new.self)
    (same ∙ entries_more c.args.cells.now c.loop-cell.cell-index c.cell-item.result c.loop-cell-test.true c.cell-item.is) added
