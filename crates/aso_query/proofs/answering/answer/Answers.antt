use Rattle.std.proofs.Common.{◌∙◌, ◌++◌, List, ℕ, ap, subst, sym}
use Rattle.std.proofs.lemmas.Result.{err_from_is_err_and}
use Rattle.aso_calc.specs.Stored.{given}
use Rattle.aso_grid.specs.Grids.{grid_lines}
use Rattle.aso_num.specs.declared.value.Val.{Val}
use Rattle.aso_query.specs.Answers.{AreValues, IsPast}
use Rattle.aso_query.proofs.Sames.{agrees, grid_over, same_past}
use Rattle.aso_query.proofs.Takings.{has_more}
use Rattle.aso_query.proofs.answering.answer.Goals as goal

pub returns-in_err-found-clause-refused : goal.returns-in_err-found-clause-refused
returns-in_err-found-clause-refused c =
    let p = err_from_is_err_and c.from_residual-in_err-found.result c.from_residual-in_err-found.ensures.1 in
    let o = c.args.outline.now in
    let own = c.args.asked.extra.members.items in
    let plan = c.args.asked.plan in
    let needs = c.args.asked.needs.items in
    let s = given c.in_ok-stored.stored in
    rw (p.1, p.2)
    (has_more (IsPast o own s plan) _ c.in_err-found.field-0.0
    (λ r past stored same. same_past o own s stored needs plan c.requires.ready.suffice (agrees s stored needs c.args.values.items c.in_ok-stored.ensures same) r past)
    c.in_err-found.ensures.refused)

pub returns-clause-grid : goal.returns-clause-grid
returns-clause-grid c = λ stored same.
    let o = c.args.outline.now in
    let own = c.args.asked.extra.members.items in
    let plan = c.args.asked.plan in
    let needs = c.args.asked.needs.items in
    let s = given c.in_ok-stored.stored in
    let found = c.deref.result.now in
    let are : AreValues o own s plan.cells found = subst (λ (v : List Val). AreValues o own s plan.cells v) (sym c.deref.ensures.value) c.in_ok-found.ensures.found in
    grid_over o own s stored needs plan c.requires.ready.suffice (agrees s stored needs c.args.values.items c.in_ok-stored.ensures same) found c.in_ok-rows.rows c.in_ok-rows.columns c.grid.new.text.items are
    c.in_ok-rows.ensures.printed (c.in_ok-rows.ensures.lines ∙ ap (λ (z : List ℕ). z ++ grid_lines o own plan found) c.new-text.ensures.items)
