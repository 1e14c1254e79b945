use Rattle.std.proofs.Common.{◌≡◌, drop}
use Rattle.aso_outtext.specs.Answers.{is_json}
use Rattle.aso_outtext.proofs.reading.is_json.Given as goal

abbrev pub invariant-loop-byte : goal.invariant-loop-byte
invariant-loop-byte l = is_json (drop l.byte-index l.text) ≡ is_json l.text
