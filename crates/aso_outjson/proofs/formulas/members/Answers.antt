use Rattle.std.proofs.Common.{◌≡◌, ◌∷◌, arith, length, sym, subst}
use Rattle.std.specs.List.{AllZip}
use Rattle.std.proofs.lemmas.Result.{err_from_is_err_and}
use Rattle.aso_outjson.specs.Formulas.{IsMember, formula_of}
use Rattle.aso_outjson.proofs.Drafts.{IsSoFar, member_spelled, so_far_counted, so_far_fault, so_far_made, so_far_more}
use Rattle.aso_outjson.proofs.formulas.members.Goals as goal

pub loop-part-preserved : goal.loop-part-preserved
loop-part-preserved c =
    let w = c.in-Some.part in
    let all = c.args.written.members in
    let rest = c.next.new.self.rest.items in
    let done = c.loop-part.made.items in
    let from = c.args.number.now in
    let number = c.loop-part.number in
    let next = c.member.new.number in
    let before : IsSoFar IsMember formula_of all (w ∷ rest) done from number =
    subst (λ ws. IsSoFar IsMember formula_of all ws done from number) c.in-Some.ensures.steps.0 c.loop-part.invariant in
    subst (λ ms. IsSoFar IsMember formula_of all rest ms from next) (sym c.in_ok-push.ensures)
    (so_far_more IsMember formula_of member_spelled w all rest done c.in_ok-member.member from number next before c.in_ok-member.ensures.found c.in_ok-member.ensures.counted)

pub returns-in_err-member-clause-refused : goal.returns-in_err-member-clause-refused
returns-in_err-member-clause-refused c =
    let w = c.in-Some.part in
    let all = c.args.written.members in
    let rest = c.next.new.self.rest.items in
    let done = c.loop-part.made.items in
    let from = c.args.number.now in
    let number = c.loop-part.number in
    let before : IsSoFar IsMember formula_of all (w ∷ rest) done from number =
    subst (λ ws. IsSoFar IsMember formula_of all ws done from number) c.in-Some.ensures.steps.0 c.loop-part.invariant in
    let p = err_from_is_err_and c.from_residual.result c.from_residual.ensures.1 in
    rw (p.1, p.2) (so_far_fault IsMember formula_of w all rest done from number c.in_err-member.field-0.0 before c.in_err-member.ensures.refused)

pub returns-clause-found : goal.returns-clause-found
returns-clause-found c =
    let all = c.args.written.members in
    let rest = c.loop-part.part-iterator.rest in
    let done = c.loop-part.made.items in
    let none : length rest.items ≡ 0 = omega (arith, rest.ok.0, c.in-None.ensures.steps.0) in
    subst (λ ms. AllZip IsMember all ms) (sym c.of.ensures) (so_far_made IsMember formula_of all rest.items done c.args.number.now c.loop-part.number none c.loop-part.invariant)

pub returns-clause-counted : goal.returns-clause-counted
returns-clause-counted c =
    let all = c.args.written.members in
    let rest = c.loop-part.part-iterator.rest in
    let none : length rest.items ≡ 0 = omega (arith, rest.ok.0, c.in-None.ensures.steps.0) in
    so_far_counted IsMember formula_of all rest.items c.loop-part.made.items c.args.number.now c.loop-part.number none c.loop-part.invariant
