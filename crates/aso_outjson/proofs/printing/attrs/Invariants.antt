use Rattle.std.proofs.Common.{◌≡◌, map, take}
use Rattle.serde_json.specs.View.{view}
use Rattle.aso_outjson.specs.Printing.{attr_value}
use Rattle.aso_outjson.proofs.printing.attrs.Given as goal

abbrev pub invariant-loop-a : goal.invariant-loop-a
invariant-loop-a l = map view l.values.items ≡ map attr_value (take l.a-index l.attrs)
