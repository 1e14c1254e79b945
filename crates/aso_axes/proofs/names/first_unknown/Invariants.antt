use Rattle.std.proofs.Common.{◌≡◌, drop, map}
use Rattle.aso_axes.specs.Sets.{first_unknown}
use Rattle.aso_axes.proofs.names.first_unknown.Given as goal

abbrev pub invariant-loop-path : goal.invariant-loop-path
invariant-loop-path l = first_unknown l.outline l.own (map (λ a. a.now) (drop l.path-index l.paths)) ≡ first_unknown l.outline l.own (map (λ a. a.now) l.paths)
