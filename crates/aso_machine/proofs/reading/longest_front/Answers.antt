use Rattle.std.proofs.Common.{◌≡◌, length, take, ap, sym, subst, ◌∙◌, arith}
use Rattle.std.specs.Str.{valid_up_to}
use Rattle.std.proofs.lemmas.List.{length-take-le}
use Rattle.aso_machine.specs.Lines.{IsLongestFront}
use Rattle.aso_machine.proofs.LineLemmas.{front_of_whole, front_up_to}
use Rattle.aso_machine.proofs.reading.longest_front.Goals as goal

pub returns-in-Ok-clause-front : goal.returns-in-Ok-clause-front
returns-in-Ok-clause-front c = front_of_whole c.args.text.now (length c.in-Ok.front.now) (ap length c.in-Ok.ensures.cases.0) c.in-Ok.ensures.cases.1

pub returns-in-Ok-from_utf8-clause-front : goal.returns-in-Ok-from_utf8-clause-front
returns-in-Ok-from_utf8-clause-front c =
    let valid = c.in-Err.ensures.cases.1 in
    let n = valid_up_to c.in-Err.fault in
    let long : length c.in-Ok-from_utf8.front.now ≡ n =
    ap length c.in-Ok-from_utf8.ensures.cases.0 ∙ (ap (λ k. length (take k c.args.text.now)) c.valid_up_to.ensures ∙ length-take-le n c.args.text.now (omega (arith, valid.short))) in
    subst (IsLongestFront c.args.text.now) (sym long) (front_up_to c.args.text.now n valid)
