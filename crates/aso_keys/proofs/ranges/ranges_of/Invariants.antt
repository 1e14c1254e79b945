use Rattle.std.proofs.Common.{◌+◌, ◌≡◌, ℕ, ◌<◌, length}
use Rattle.std.specs.Prelude.{slice_get}
use Rattle.aso_keys.specs.Axes.{found}
use Rattle.aso_keys.specs.Ranges.{IsRangeOf}
use Rattle.aso_keys.proofs.ranges.ranges_of.Given as goal

abbrev pub invariant-loop-at : goal.invariant-loop-at
invariant-loop-at l = record {
  long : length l.each.items ≡ l.at;
  each : (k : ℕ) → k < l.at → IsRangeOf l.outline l.dim (l.hier, l.level) (l.first + k) (found (slice_get l.each.items k));
}
