use Rattle.std.proofs.Common.{◌≡◌, ◌∙◌, ℕ, rules, ap, sym, subst, FitsSigned}
use Rattle.std.specs.Int.{w128}
use Rattle.std.specs.Prelude.{ℤ}
use Rattle.std.proofs.lemmas.Int.{to_z-of_z}
use Rattle.aso_runs.specs.Runs.{Entries, amounts_at, value_at}
use Rattle.aso_buffer.specs.Buffers.{IsLeastPast, combined, combined_at}
use Rattle.aso_buffer.proofs.PastLemmas.{least_past}
use Rattle.aso_buffer.proofs.buffer.Buffer.cells.Goals as goal

pub returns-in_ok-leaves_at-in-Some-clause-fault : goal.returns-in_ok-leaves_at-in-Some-clause-fault
returns-in_ok-leaves_at-in-Some-clause-fault g c =
    let kind = c.args.self.now.kind in
    let axes = c.args.layout.now in
    let records = c.args.self.now.records in
    let amount = c.in-Some.cell.amount in
    let leaves = c.in_ok-leaves_at-in-Some.field-0 in
    let fits : FitsSigned w128 amount = search rules in
    let values : (k : ℕ) → value_at k c.in_ok-run.run' ≡ combined_at kind axes records k =
    λ k. c.in_ok-run.ensures.values k ∙ ap (λ (es : Entries). combined kind (amounts_at k es)) c.in_ok-records.ensures.keyed in
    subst (λ (z : ℤ). IsLeastPast kind axes records leaves z) (sym (to_z-of_z w128 amount fits))
    (least_past kind axes records c.in_ok-run.run' c.in-Some.cell.key amount leaves c.requires.keys values c.in-Some.ensures.found c.in_ok-leaves_at-in-Some.ensures)
