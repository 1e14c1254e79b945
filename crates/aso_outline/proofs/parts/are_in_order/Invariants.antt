use Rattle.std.proofs.Common.{◌≡◌, ◌<◌, ℕ, true}
use Rattle.aso_outline.specs.Parts.{is_in_order}
use Rattle.aso_outline.proofs.parts.are_in_order.Given as goal

abbrev pub invariant-loop-number : goal.invariant-loop-number
invariant-loop-number l = (k : ℕ) → k < l.number → is_in_order l.draft l.parts k ≡ true
