use Rattle.std.proofs.Common.{◌≡◌, ◌∙◌, ◌+◌, ℕ, List, length, map, ap, subst, sym, rules}
use Rattle.std.specs.Prelude.{ℤ, FitsSigned}
use Rattle.std.specs.Int.{w128}
use Rattle.std.proofs.lemmas.Int.{to_z-of_z}
use Rattle.std.specs.List.{AllByRecursion}
use Rattle.aso_catalog.specs.declared.record.LeafCell.{LeafCell}
use Rattle.aso_catalog.specs.Record.{IsStorable}
use Rattle.aso_machine.specs.CellSteps.{IsSmall, add_cell}
use Rattle.aso_spec.specs.Cells.{add_at}
use Rattle.aso_machine.specs.State.{State, committed, entry}
use Rattle.aso_stage.specs.Store.{Stands}
use Rattle.aso_stage.specs.Stores.{state_of}
use Rattle.aso_machine.proofs.Rising.{added_length, cells_small, next_storable}
use Rattle.aso_stage.proofs.Standing.{next_stands}
use Rattle.aso_stage.proofs.next.next_record.Goals as goal

pub add_cell-requires-clause-small : goal.add_cell-requires-clause-small
add_cell-requires-clause-small c =
    subst (λ (cs : List LeafCell). AllByRecursion IsSmall cs) (sym c.items.ensures) (cells_small c.args.store.now.saved c.args.store.now.outline c.requires.store.fits)

pub returns-clause-stands : goal.returns-clause-stands
returns-clause-stands c =
    let r = c.args.store.now.saved in
    let fits : FitsSigned w128 c.args.amount = search rules in
    let same_outline : c.of.result ≡ r.outline = c.of.ensures ∙ c.in_ok-outline.ensures.items ∙ c.items-2.ensures in
    let same_cells : c.of-2.result ≡ add_cell c.args.key.now c.args.amount r.cells = c.of-2.ensures ∙ c.in_ok-cells.ensures ∙ ap (λ (x : ℤ). add_cell c.args.key.now x c.items.result.now) (to_z-of_z w128 c.args.amount fits) ∙ ap (add_cell c.args.key.now c.args.amount) c.items.ensures in
    let made = next_stands r c.args.store.now.outline c.args.key.now c.args.amount c.requires.store c.requires.leaves c.requires.sum in
    let s : State = committed (state_of c.args.store.now) (add_at c.args.key.now c.args.amount (map entry r.cells)) in
    subst (λ (x : List ℕ). Stands (record { layout = r.layout + 1; commit = r.commit + 1; outline = x; dimensions = r.dimensions; cells = c.of-2.result }) s) (sym same_outline)
    (subst (λ (cs : List LeafCell). Stands (record { layout = r.layout + 1; commit = r.commit + 1; outline = r.outline; dimensions = r.dimensions; cells = cs }) s) (sym same_cells) made)

pub returns-clause-storable : goal.returns-clause-storable
returns-clause-storable c =
    let r = c.args.store.now.saved in
    let fits : FitsSigned w128 c.args.amount = search rules in
    let same_outline : c.of.result ≡ r.outline = c.of.ensures ∙ c.in_ok-outline.ensures.items ∙ c.items-2.ensures in
    let same_cells : c.of-2.result ≡ add_cell c.args.key.now c.args.amount r.cells = c.of-2.ensures ∙ c.in_ok-cells.ensures ∙ ap (λ (x : ℤ). add_cell c.args.key.now x c.items.result.now) (to_z-of_z w128 c.args.amount fits) ∙ ap (add_cell c.args.key.now c.args.amount) c.items.ensures in
    let made = next_storable r c.args.store.now.outline c.args.key.now c.args.amount c.requires.store.fits c.requires.leaves c.requires.storable c.requires.few in
    subst (λ (x : List ℕ). IsStorable (record { layout = r.layout + 1; commit = r.commit + 1; outline = x; dimensions = r.dimensions; cells = c.of-2.result })) (sym same_outline)
    (subst (λ (cs : List LeafCell). IsStorable (record { layout = r.layout + 1; commit = r.commit + 1; outline = r.outline; dimensions = r.dimensions; cells = cs })) (sym same_cells) made)

pub returns-clause-cells : goal.returns-clause-cells
returns-clause-cells c =
    let r = c.args.store.now.saved in
    let fits : FitsSigned w128 c.args.amount = search rules in
    let same_cells : c.of-2.result ≡ add_cell c.args.key.now c.args.amount r.cells = c.of-2.ensures ∙ c.in_ok-cells.ensures ∙ ap (λ (x : ℤ). add_cell c.args.key.now x c.items.result.now) (to_z-of_z w128 c.args.amount fits) ∙ ap (add_cell c.args.key.now c.args.amount) c.items.ensures in
    ap length same_cells ∙ added_length c.args.key.now c.args.amount r.cells
