use Rattle.std.proofs.Common.{◌∙◌, ◌<◌, List, ℕ, length, slice_get, sym, ap, arith}
use Rattle.aso_outline.specs.Members.{seats}
use Rattle.aso_calc.proofs.MemberLemmas.{children_inside}
use Rattle.aso_calc.proofs.members.children_at.Goals as goal

pub returns-then-n-members-clause-there : goal.returns-then-n-members-clause-there
returns-then-n-members-clause-there c k child is =
    let low : c.args.n < length (seats c.args.outline.now) = omega (arith, c.if-n-members.true, c.members.ensures) in
    c.children.ensures.there k child (sym (ap (λ (xs : List ℕ). slice_get xs k) (children_inside c.args.outline.now c.args.n low)) ∙ is)
