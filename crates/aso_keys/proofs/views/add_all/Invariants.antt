use Rattle.std.proofs.Common.{◌≡◌, ℕ, ◌++◌}
use Rattle.std.specs.Prelude.{map}
use Rattle.std.specs.List.{range_with_len}
use Rattle.aso_keys.proofs.views.add_all.Given as goal

abbrev pub invariant-loop-level : goal.invariant-loop-level
invariant-loop-level l = l.offered.items ≡ l.initial.offered.items ++ map (λ (level : ℕ). (l.hier, level)) (range_with_len 1 l.level)
