use Rattle.std.proofs.Common.{◌≡◌, true}
use Rattle.aso_outline.proofs.PartLemmas.{leads}
use Rattle.aso_outline.proofs.circles.is_circle.Given as goal

abbrev pub invariant-loop-member : goal.invariant-loop-member
invariant-loop-member l = leads l.draft l.goal l.next ≡ true
