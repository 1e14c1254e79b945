use Rattle.std.proofs.Common.{◌≡◌, ◌<◌, ℕ, Some, length}
use Rattle.std.specs.Prelude.{slice_get}
use Rattle.aso_outline.specs.declared.draft.Tuple.{Tuple}
use Rattle.aso_trials_values.proofs.tuples.are_long.Given as goal

abbrev pub invariant-loop-tuple : goal.invariant-loop-tuple
invariant-loop-tuple l = (k : ℕ) (t : Tuple) → k < l.tuple-index → slice_get l.asked k ≡ Some t → length t.base ≡ length l.outline.dims
