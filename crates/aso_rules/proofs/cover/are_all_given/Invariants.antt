use Rattle.std.proofs.Common.{◌≡◌, ◌<◌, ◌||◌, ℕ, true}
use Rattle.aso_rules.specs.Rules.{has}
use Rattle.aso_rules.proofs.cover.are_all_given.Given as goal

abbrev pub invariant-loop-dim : goal.invariant-loop-dim
invariant-loop-dim l = (k : ℕ) → k < l.dim → (has l.shared k || has l.own k) ≡ true
