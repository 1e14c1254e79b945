use Rattle.std.proofs.Common.{◌≡◌, ◌<◌, ℕ, false}
use Rattle.aso_outline.specs.Rules.{breaks_formulas}
use Rattle.aso_outline.proofs.formulas.first_wrong.Given as goal

abbrev pub invariant-loop-number : goal.invariant-loop-number
invariant-loop-number l = (k : ℕ) → k < l.number → breaks_formulas l.draft k ≡ false
