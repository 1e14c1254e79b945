-- A formula over the values of its atoms, in the order of the text.
use Rattle.std.specs.Prelude.{ℕ, List, [], ◌∷◌, drop, Option, slice_get, unwrap_or, Ok, Err}
use mathlib.Core.Former.{Count}
use Rattle.aso_num.specs.declared.value.Val.TheVariants as val
use Rattle.aso_num.specs.Numbers.{ranged}
use Rattle.aso_outline.specs.declared.draft.Expr.{Expr, Num, Cell, Neg', Bin'}
use Rattle.aso_outline.specs.declared.draft.Expr.TheBlock.{Row_of-Expr, end_of-Expr, more_of-Expr}
use Rattle.aso_calc.specs.Values.{Outcome, applied, negated}

-- the value, and the values that stand behind those of the formula
abbrev pub Read : Type 0
Read = Outcome × List Outcome

abbrev pub first_value : List Outcome → Outcome
first_value vs = unwrap_or (slice_get vs 0) (Ok val.Missing)

abbrev pub checked : Outcome → Outcome
checked (Ok v) = ranged v
checked (Err e) = Err e

abbrev mutual
  pub value_from : Expr → List Outcome → Read
  value_from (Num z) vs = (ranged (val.Num z), vs)
  value_from (Cell names) vs = (checked (first_value vs), drop 1 vs)
  value_from (Neg' p e) vs = (negated (row_from 1 e vs).0, (row_from 1 e vs).1)
  value_from (Bin' op p left q right) vs = (applied op (row_from 1 left vs).0 (row_from 1 right (row_from 1 left vs).1).0, (row_from 1 right (row_from 1 left vs).1).1)

  pub row_from : (k : Count) → Row_of-Expr k → List Outcome → Read
  row_from _ end_of-Expr vs = (Ok val.Missing, vs)
  row_from _ (more_of-Expr e rest) vs = ((value_from e vs).0, (row_from _ rest (value_from e vs).1).1)
