use Rattle.std.proofs.Common.{ℕ, ◌≤◌, ◌^◌}
use Rattle.aso_keys.proofs.build.width_for.Given as goal

abbrev pub invariant-loop-bits : goal.invariant-loop-bits
invariant-loop-bits l = (k : ℕ) → l.count ≤ 2 ^ k → l.bits ≤ k
