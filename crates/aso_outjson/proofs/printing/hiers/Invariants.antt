use Rattle.std.proofs.Common.{◌≡◌, map, take}
use Rattle.serde_json.specs.View.{view}
use Rattle.aso_outjson.specs.Printing.{hier_value}
use Rattle.aso_outjson.proofs.printing.hiers.Given as goal

abbrev pub invariant-loop-h : goal.invariant-loop-h
invariant-loop-h l = map view l.values.items ≡ map hier_value (take l.h-index l.hiers)
