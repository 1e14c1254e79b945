use Rattle.std.specs.List.{range_with_len}
use Rattle.std.proofs.Common.{◌∙◌, ◌++◌, ◌∷◌, [], ℕ, List, map, sym, ap}
use Rattle.aso_outline.specs.declared.seat.Seat.TheVariants.{Inner}
use Rattle.aso_outline.specs.Targets.{number_of}
use Rattle.aso_axes.proofs.RangeSteps.{map_first}
use Rattle.aso_axes.proofs.given.roots.Goals as goal

pub loop-hier-preserved : goal.loop-hier-preserved
loop-hier-preserved c =
    let f : ℕ → ℕ = λ h. number_of c.args.outline.now (Inner c.args.dim h 0) in
    c.in_ok-push.ensures.items
    ∙ (ap (λ (xs : List ℕ). xs ++ c.root_of.result ∷ []) c.loop-hier.invariant
    ∙ (ap (λ (x : ℕ). map f (range_with_len 0 c.loop-hier.hier) ++ x ∷ []) c.root_of.ensures ∙ sym (map_first f c.loop-hier.hier)))
