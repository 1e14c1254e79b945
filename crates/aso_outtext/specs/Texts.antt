-- Refusals as they are printed, behind the number of their statement.
use Rattle.std.specs.Prelude.{ℕ, List, ◌++◌, codes, string_bytes}
use Rattle.std.specs.Fmt.{decimal}
use Rattle.aso_spec.specs.Grid.{shown}
use Rattle.aso_outjson.specs.declared.fault.JsonFault.{JsonFault}
use Rattle.aso_outjson.specs.declared.fault.JsonFault.TheVariants as json
use Rattle.aso_outtext.specs.declared.fault.TextFault.{TextFault}
use Rattle.aso_outtext.specs.declared.fault.TextFault.TheVariants.{Line, Refused, Json, NoMemory}

abbrev pub rule_text : ℕ → ℕ → List ℕ
rule_text rule member = codes "217 outline: rule O" ++ decimal rule ++ codes " at member " ++ decimal member

abbrev pub json_text : JsonFault → List ℕ
json_text json.NotJson = codes "217 outline: not JSON"
json_text (json.Field path) = codes "217 outline: field " ++ shown (string_bytes path)
json_text (json.Formula member at) = codes "217 outline: formula " ++ decimal member ++ codes " byte " ++ decimal at
json_text (json.Refused rule member) = rule_text rule member
json_text (json.NoMemory e) = codes "401 no memory"

abbrev pub fault_text : TextFault → List ℕ
fault_text (Line at) = codes "201 syntax: byte " ++ decimal at
fault_text (Refused rule member) = rule_text rule member
fault_text (Json fault) = json_text fault
fault_text (NoMemory e) = codes "401 no memory"
