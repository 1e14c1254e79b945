use Rattle.std.specs.List.{filter}
use Rattle.std.proofs.Common.{◌∙◌, ◌++◌, ◌∷◌, [], ℕ, List, sym, ap, arith}
use Rattle.aso_axes.specs.Members.{is_unshared}
use Rattle.aso_axes.proofs.RangeSteps.{filter_range}
use Rattle.aso_axes.proofs.given.unshared_only.Goals as goal

pub loop-n-preserved : goal.loop-n-preserved
loop-n-preserved c =
    let p = is_unshared c.args.outline.now in
    c.in_ok-push_unshared.ensures
    ∙ (ap (λ (xs : List ℕ). xs ++ filter p (c.loop-n.n ∷ [])) c.loop-n.invariant ∙ sym (filter_range c.args.from c.loop-n.n (omega (arith, c.loop-n.auto.n)) p))
