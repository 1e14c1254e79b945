use Rattle.std.proofs.Common.{◌≡◌}
use Rattle.serde_json.specs.View.{members_view}
use Rattle.aso_outjson.specs.Fields.{first_other}
use Rattle.aso_outjson.specs.Words.{is_field}
use Rattle.aso_outjson.proofs.fields.first_other.Given as goal

abbrev pub invariant-loop-name : goal.invariant-loop-name
invariant-loop-name l = first_other (is_field l.object) (members_view l.fn.fields.entries) ≡ first_other (is_field l.object) (members_view l.name-iterator)
