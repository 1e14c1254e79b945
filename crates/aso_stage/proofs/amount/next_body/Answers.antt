use Rattle.std.proofs.Common.{◌≤◌, ◌*◌, length, map, ap, sym, arith, rules}
use Rattle.std.specs.Prelude.{ℤ, FitsSigned}
use Rattle.std.specs.Int.{w128}
use Rattle.std.proofs.lemmas.Int.{to_z-of_z}
use Rattle.std.proofs.Math.Nat.{mul-le-mul_right}
use Rattle.aso_spec.specs.Cells.{add_at}
use Rattle.aso_machine.specs.State.{State, entry}
use Rattle.aso_machine.proofs.Rising.{cells_small}
use Rattle.aso_stage.specs.Bodies.{longest_cell_in_range}
use Rattle.aso_stage.specs.Store.{Stands}
use Rattle.aso_stage.specs.Stores.{added_state}
use Rattle.aso_stage.proofs.Standing.{stands_again}
use Rattle.aso_stage.proofs.amount.next_body.Goals as goal

pub body_of-requires-clause-small : goal.body_of-requires-clause-small
body_of-requires-clause-small c =
    let s : State = added_state c.args.store.now c.args.key.now c.args.amount in
    let stands : Stands c.in_ok-next.next s = search rules in
    cells_small c.in_ok-next.next c.args.store.now.outline stands.fits

pub returns-clause-short : goal.returns-clause-short
returns-clause-short c =
    let next = c.in_ok-next.next in
    let made = c.in_ok-next.ensures in
    let r = c.args.store.now.saved in
    let long = ap length made.outline in
    let text = c.requires.store.keeps.short in
    let fits : FitsSigned w128 c.args.amount = search rules in
    let same = ap (λ (x : ℤ). length (add_at c.args.key.now x (map entry r.cells))) (to_z-of_z w128 c.args.amount fits) in
    let few : length next.cells ≤ 1000 = omega (arith, made.cells, same, c.requires.few) in
    let cells : length next.cells * longest_cell_in_range next.dimensions ≤ 1000 * longest_cell_in_range next.dimensions = mul-le-mul_right (longest_cell_in_range next.dimensions) few in
    omega (arith, c.in_ok-body.ensures.short, long, text, cells, made.storable.most)

pub returns-clause-state : goal.returns-clause-state
returns-clause-state c =
    let s : State = added_state c.args.store.now c.args.key.now c.args.amount in
    let stands : Stands c.in_ok-next.next s = search rules in
    sym stands.is

pub returns-clause-stands : goal.returns-clause-stands
returns-clause-stands c =
    let s : State = added_state c.args.store.now c.args.key.now c.args.amount in
    stands_again c.in_ok-next.next s (search rules)
