use Rattle.std.proofs.Common.{◌∙◌, ℕ, Bool, Option, Some, sym, ap}
use Rattle.std.specs.Prelude.{if◌then◌else◌, slice_index}
use Rattle.aso_outline.specs.Ranks.{at_number, is_of_dim}
use Rattle.aso_calc.proofs.LastOf.{last_more}
use Rattle.aso_calc.proofs.operands.last_of_dim.Goals as goal

pub loop-member-preserved : goal.loop-member-preserved
loop-member-preserved c =
    let item : ℕ = slice_index c.args.members.now c.loop-member.member-index in
    let test : ℕ → Bool = at_number (is_of_dim c.args.dim) c.args.outline.now in
    c.choose-found.ensures
    ∙ (ap (λ (b : Bool). if b then Some item else c.loop-member.found) c.is_of_dim-is_new.ensures
    ∙ (ap (λ (r : Option ℕ). if test item then Some item else r) c.loop-member.invariant
    ∙ sym (last_more test c.args.members.now c.loop-member.member-index 0 c.loop-member-test.true)))
