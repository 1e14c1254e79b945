use Rattle.std.proofs.Common.{subst, sym}
use Rattle.serde_json.specs.Find.{as_array}
use Rattle.serde_json.specs.View.{view}
use Rattle.aso_outjson.specs.Fields.{each}
use Rattle.aso_outjson.specs.Gives.{Gives}
use Rattle.aso_outjson.proofs.Founds.{array_is}
use Rattle.aso_outjson.proofs.values.PartsPart.read.Goals as goal

pub returns-in-Some : goal.returns-in-Some
returns-in-Some g c =
    subst (λ r. Gives c.each.result r) (sym (array_is c.in-Some.values.now (as_array (view c.args.value.now)) (each g.T.Part.reads 0) c.in-Some.ensures)) c.each.ensures
