use Rattle.std.proofs.Common.{◌≡◌, ◌<◌, ℕ, false}
use Rattle.aso_outline.specs.Leaves.{is_data_place}
use Rattle.aso_outline.proofs.leaves.any_data_place.Given as goal

abbrev pub invariant-loop-place : goal.invariant-loop-place
invariant-loop-place l = (k : ℕ) → k < l.place → is_data_place l.members k ≡ false
