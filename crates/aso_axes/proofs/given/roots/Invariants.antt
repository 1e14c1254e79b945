use Rattle.std.proofs.Common.{◌≡◌, map}
use Rattle.std.specs.List.{range_with_len}
use Rattle.aso_outline.specs.declared.seat.Seat.TheVariants.{Inner}
use Rattle.aso_outline.specs.Targets.{number_of}
use Rattle.aso_axes.proofs.given.roots.Given as goal

abbrev pub invariant-loop-hier : goal.invariant-loop-hier
invariant-loop-hier l = l.all.items ≡ map (λ h. number_of l.outline (Inner l.dim h 0)) (range_with_len 0 l.hier)
