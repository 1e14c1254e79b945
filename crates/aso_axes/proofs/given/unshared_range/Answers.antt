use Rattle.std.specs.List.{range_with_len}
use Rattle.std.proofs.Common.{◌∙◌, ◌-◌, ◌++◌, ◌∷◌, [], ℕ, List, map, sym, ap, arith}
use Rattle.aso_axes.specs.Members.{unshared}
use Rattle.aso_axes.proofs.RangeSteps.{map_range}
use Rattle.aso_axes.proofs.given.unshared_range.Goals as goal

pub loop-n-preserved : goal.loop-n-preserved
loop-n-preserved c =
    let f = unshared c.args.outline.now in
    c.in_ok-push.ensures.items
    ∙ (ap (λ (xs : List ℕ). xs ++ c.unshared.result ∷ []) c.loop-n.invariant
    ∙ (ap (λ (x : ℕ). map f (range_with_len c.args.from (c.loop-n.n - c.args.from)) ++ x ∷ []) c.unshared.ensures ∙ sym (map_range c.args.from c.loop-n.n (omega (arith, c.loop-n.auto.n)) f)))
