use Rattle.std.proofs.Common.{◌≡◌, ◌<◌, ℕ, Some}
use Rattle.std.specs.Prelude.{slice_get, unwrap_or}
use Rattle.aso_num.specs.declared.value.Val.{Val}
use Rattle.aso_num.specs.declared.value.Val.TheVariants.{Missing}
use Rattle.aso_outline.specs.declared.draft.Tuple.{Tuple}
use Rattle.aso_calc.specs.Keys.{key_of}
use Rattle.aso_calc.specs.Tables.{at}
use Rattle.aso_calc.proofs.stored.StoredValues.new.Given as goal

abbrev pub invariant-loop-at : goal.invariant-loop-at
invariant-loop-at l = (k : ℕ) (t : Tuple) (v : Val) → k < l.at → slice_get l.tuples.items k ≡ Some t → slice_get l.values.items k ≡ Some v → unwrap_or (at l.table (key_of t.base t.attrs)) Missing ≡ v
