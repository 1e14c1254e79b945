use Rattle.std.proofs.Common.{◌≡◌, drop, map}
use Rattle.aso_outline.specs.Extend.{first_unknown}
use Rattle.aso_outline.proofs.extend.first_unknown.Given as goal

abbrev pub invariant-loop-names : goal.invariant-loop-names
invariant-loop-names l = first_unknown l.outline (map (λ a. a.now) (drop l.names-index l.all)) ≡ first_unknown l.outline (map (λ a. a.now) l.all)
