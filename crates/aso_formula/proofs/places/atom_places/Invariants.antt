use Rattle.std.proofs.Common.{◌≡◌, ◌++◌, false, length}
use Rattle.aso_formula.specs.Places.{begins_in}
use Rattle.aso_formula.proofs.places.atom_places.Given as goal

abbrev pub invariant-loop-rest : goal.invariant-loop-rest
invariant-loop-rest l = l.places.items ++ begins_in l.after_comma l.before l.rest ≡ begins_in false 0 l.tokens

abbrev pub decreases-loop-rest : goal.decreases-loop-rest
decreases-loop-rest l = length l.rest
