use Rattle.std.proofs.Common.{◌≡◌, ◌<◌, ℕ, true}
use Rattle.std.specs.Prelude.{nat_le}
use Rattle.aso_outline.specs.Rules.{count_of_attr}
use Rattle.aso_outline.proofs.attributes.are_of_different_attrs.Given as goal

abbrev pub invariant-loop-attr : goal.invariant-loop-attr
invariant-loop-attr l = (k : ℕ) → k < l.attr → nat_le (count_of_attr k l.found) 1 ≡ true
