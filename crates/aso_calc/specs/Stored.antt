-- The stored values that are given.
use Rattle.std.specs.Prelude.{ℕ, List, Option, unwrap_or}
use Rattle.aso_num.specs.declared.value.Val.{Val}
use Rattle.aso_num.specs.declared.value.Val.TheVariants.{Missing}
use Rattle.aso_outline.specs.declared.draft.Tuple.{Tuple}
use Rattle.aso_calc.specs.declared.stored.StoredValues.{StoredValues}
use Rattle.aso_calc.specs.Keys.{key_of}
use Rattle.aso_calc.specs.Tables.{at}

-- the value of a tuple; missing where none is given
abbrev pub given : StoredValues → Tuple → Val
given s t = unwrap_or (at s.table (key_of t.base t.attrs)) Missing

-- the same, with the attributes asked before the coordinates
abbrev pub given_at : StoredValues → List (Option ℕ) → List ℕ → Val
given_at s attrs base = given s (record { base = base; attrs = attrs })
