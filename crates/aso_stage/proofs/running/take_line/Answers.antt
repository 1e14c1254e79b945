use Rattle.std.proofs.Common.{◌∙◌, ◌++◌, List, ℕ, ap, map, subst, sym, rules}
use Rattle.std.specs.Prelude.{ℤ, FitsSigned}
use Rattle.std.specs.Int.{w128}
use Rattle.std.proofs.lemmas.Int.{to_z-of_z}
use Rattle.aso_script.specs.Lines.{line as line_of}
use Rattle.aso_spec.specs.Grid.{error_line, grid_head}
use Rattle.aso_spec.specs.Cells.{add_at}
use Rattle.aso_machine.specs.State.{entry}
use Rattle.aso_machine.specs.Machine.{Changes, Comes}
use Rattle.aso_machine.specs.declared.verdict.Verdict.{Verdict}
use Rattle.aso_machine.specs.Verdicts.{IsVerdict}
use Rattle.aso_stage.specs.Stores.{state_of}
use Rattle.aso_stage.proofs.Results.{if_ok}
use Rattle.aso_stage.proofs.Taking.{refused_taken, shown_taken}
use Rattle.aso_stage.proofs.running.take_line.Goals as goal

pub returns-in_ok-error_line-in-Refused-clause-taken : goal.returns-in_ok-error_line-in-Refused-clause-taken
returns-in_ok-error_line-in-Refused-clause-taken g c = λ h holds.
    let store = c.args.store.now in
    let line = line_of c.args.line.now in
    let is = subst (λ (v : Verdict). IsVerdict store.outline store.saved line v) c.in-Refused.is c.in_ok-text.ensures in
    refused_taken c.args.catalog.now store h holds c.args.number line c.in_ok-error_line-in-Refused.field-0.items c.in-Refused.text.items is.says
    (c.in_ok-error_line-in-Refused.ensures ∙ ap (error_line c.args.number) c.deref.ensures.value)

pub returns-in_ok-grid_reply-in-Grid-clause-taken : goal.returns-in_ok-grid_reply-in-Grid-clause-taken
returns-in_ok-grid_reply-in-Grid-clause-taken g c = λ h holds.
    let store = c.args.store.now in
    let line = line_of c.args.line.now in
    let is = subst (λ (v : Verdict). IsVerdict store.outline store.saved line v) c.in-Grid.is c.in_ok-text.ensures in
    shown_taken c.args.catalog.now store h holds c.args.number line c.in_ok-grid_reply-in-Grid.field-0.items c.in-Grid.rows c.in-Grid.columns c.in-Grid.text.items is.says
    (c.in_ok-grid_reply-in-Grid.ensures ∙ ap (λ (l : List ℕ). grid_head c.args.number store.saved.commit c.in-Grid.rows c.in-Grid.columns ++ l) c.deref-in-Grid.ensures.value)

pub returns-in-Commit-clause-taken : goal.returns-in-Commit-clause-taken
returns-in-Commit-clause-taken g c =
    let store = c.args.store.now in
    let line = line_of c.args.line.now in
    let is = subst (λ (v : Verdict). IsVerdict store.outline store.saved line v) c.in-Commit.is c.in_ok-text.ensures in
    let fits : FitsSigned w128 c.in-Commit.amount = search rules in
    let of_key = subst (λ (k : List ℕ). Comes (state_of store) line (Changes (add_at k c.in-Commit.amount (map entry store.saved.cells)))) (sym c.deref-in-Commit.ensures.value) is.says in
    let comes = subst (λ (x : ℤ). Comes (state_of store) line (Changes (add_at c.deref-in-Commit.result.now x (map entry store.saved.cells)))) (sym (to_z-of_z w128 c.in-Commit.amount fits)) of_key in
    if_ok c.commit.result _ _ (λ a taken h holds. taken h line holds comes) c.commit.ensures.taken
