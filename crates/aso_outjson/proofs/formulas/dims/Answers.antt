use Rattle.std.proofs.Common.{◌≡◌, ◌∷◌, arith, length, sym, subst}
use Rattle.std.specs.List.{AllZip}
use Rattle.std.proofs.lemmas.Result.{err_from_is_err_and}
use Rattle.aso_outjson.specs.Formulas.{IsDim, dim_formulas}
use Rattle.aso_outjson.proofs.Drafts.{IsSoFar, dim_spelled, so_far_counted, so_far_fault, so_far_made, so_far_more}
use Rattle.aso_outjson.proofs.formulas.dims.Goals as goal

pub loop-part-preserved : goal.loop-part-preserved
loop-part-preserved c =
    let w = c.in-Some.part in
    let all = c.args.written in
    let rest = c.next.new.self.rest.items in
    let done = c.loop-part.made.items in
    let from = c.args.number.now in
    let number = c.loop-part.number in
    let next = c.dim.new.number in
    let before : IsSoFar IsDim dim_formulas all (w ∷ rest) done from number =
    subst (λ ws. IsSoFar IsDim dim_formulas all ws done from number) c.in-Some.ensures.steps.0 c.loop-part.invariant in
    subst (λ ms. IsSoFar IsDim dim_formulas all rest ms from next) (sym c.in_ok-push.ensures)
    (so_far_more IsDim dim_formulas dim_spelled w all rest done c.in_ok-dim.dim from number next before c.in_ok-dim.ensures.found c.in_ok-dim.ensures.counted)

pub returns-in_err-dim-clause-refused : goal.returns-in_err-dim-clause-refused
returns-in_err-dim-clause-refused c =
    let w = c.in-Some.part in
    let all = c.args.written in
    let rest = c.next.new.self.rest.items in
    let done = c.loop-part.made.items in
    let from = c.args.number.now in
    let number = c.loop-part.number in
    let before : IsSoFar IsDim dim_formulas all (w ∷ rest) done from number =
    subst (λ ws. IsSoFar IsDim dim_formulas all ws done from number) c.in-Some.ensures.steps.0 c.loop-part.invariant in
    let p = err_from_is_err_and c.from_residual.result c.from_residual.ensures.1 in
    rw (p.1, p.2) (so_far_fault IsDim dim_formulas w all rest done from number c.in_err-dim.field-0.0 before c.in_err-dim.ensures.refused)

pub returns-clause-found : goal.returns-clause-found
returns-clause-found c =
    let all = c.args.written in
    let rest = c.loop-part.part-iterator.rest in
    let done = c.loop-part.made.items in
    let none : length rest.items ≡ 0 = omega (arith, rest.ok.0, c.in-None.ensures.steps.0) in
    subst (λ ms. AllZip IsDim all ms) (sym c.of.ensures) (so_far_made IsDim dim_formulas all rest.items done c.args.number.now c.loop-part.number none c.loop-part.invariant)

pub returns-clause-counted : goal.returns-clause-counted
returns-clause-counted c =
    let all = c.args.written in
    let rest = c.loop-part.part-iterator.rest in
    let none : length rest.items ≡ 0 = omega (arith, rest.ok.0, c.in-None.ensures.steps.0) in
    so_far_counted IsDim dim_formulas all rest.items c.loop-part.made.items c.args.number.now c.loop-part.number none c.loop-part.invariant
