use Rattle.std.proofs.Common.{◌≡◌, map, take}
use Rattle.serde_json.specs.View.{view}
use Rattle.aso_outjson.specs.Printing.{dim_value}
use Rattle.aso_outjson.proofs.printing.dims.Given as goal

abbrev pub invariant-loop-d : goal.invariant-loop-d
invariant-loop-d l = map view l.values.items ≡ map dim_value (take l.d-index l.dims)
