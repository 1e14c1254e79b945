use Rattle.std.proofs.Common.{◌≡◌}
use Rattle.serde_json.specs.View.{members_view}
use Rattle.aso_rules.specs.Json.{are_names}
use Rattle.aso_rules.specs.Written.{is_field}
use Rattle.aso_rules.proofs.has_only.are_fields.Given as goal

abbrev pub invariant-loop-name : goal.invariant-loop-name
invariant-loop-name l = are_names (is_field l.fields) (members_view l.fn.map.entries) ≡ are_names (is_field l.fields) (members_view l.name-iterator)
