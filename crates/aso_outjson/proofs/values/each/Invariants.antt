use Rattle.std.proofs.Common.{◌≡◌, drop, map}
use Rattle.serde_json.specs.View.{view}
use Rattle.aso_outjson.specs.Fields.{each}
use Rattle.aso_outjson.specs.Gives.{behind}
use Rattle.aso_outjson.proofs.values.each.Given as goal

abbrev pub invariant-loop-number : goal.invariant-loop-number
invariant-loop-number g l = each g.T.Part.reads 0 (map view l.values) ≡ behind l.parts.items (each g.T.Part.reads l.number (map view (drop l.number l.values)))
