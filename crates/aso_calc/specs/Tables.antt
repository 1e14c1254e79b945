-- What a table has under a list of numbers.
use Rattle.std.specs.Prelude.{ℕ, List, Option}
use Rattle.std.specs.HashMap.{get_by}
use Rattle.std.specs.Str.{bytes_eq}
use Rattle.aso_calc.specs.declared.table.Table.{Table}

abbrev pub at : {V : Type 0} → Table V → List ℕ → Option V
at table q = get_by (λ k. bytes_eq q k.items) table.map
