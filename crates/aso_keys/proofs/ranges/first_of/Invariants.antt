use Rattle.std.proofs.Common.{◌-◌, ◌≡◌, ℕ, ◌<◌, ◌≤◌, true, false, length}
use Rattle.aso_outline.specs.Members.{seats}
use Rattle.aso_outline.specs.Numbers.{seat_of}
use Rattle.aso_keys.specs.Ranges.{stands_before}
use Rattle.aso_keys.proofs.ranges.first_of.Given as goal

abbrev pub invariant-loop-low : goal.invariant-loop-low
invariant-loop-low l = record {
  ordered : l.low ≤ l.high;
  within : l.high ≤ length (seats l.outline);
  low : (m : ℕ) → m < l.low → stands_before l.dim (seat_of l.outline m) ≡ true;
  high : (m : ℕ) → l.high ≤ m → m < length (seats l.outline) → stands_before l.dim (seat_of l.outline m) ≡ false;
}

abbrev pub decreases-loop-low : goal.decreases-loop-low
decreases-loop-low l = l.high - l.low
