use Rattle.std.proofs.Common.{◌≡◌, ◌<◌, ℕ, get_or, false}
use Rattle.aso_outline.specs.declared.seat.Seat.TheVariants.{Whole}
use Rattle.aso_outline.specs.Members.{seats}
use Rattle.aso_outline.specs.Rules.{breaks_attributes}
use Rattle.aso_outline.proofs.attributes.least_wrong_attribute.Given as goal

abbrev pub invariant-loop-number : goal.invariant-loop-number
invariant-loop-number l = (k : ℕ) → k < l.number → breaks_attributes l.draft (get_or (seats l.draft) k (Whole 0)) ≡ false
