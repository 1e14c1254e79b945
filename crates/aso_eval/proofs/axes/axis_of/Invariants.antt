use Rattle.std.proofs.Common.{◌≡◌, map, take}
use Rattle.aso_sheettext.specs.Texts.{names}
use Rattle.aso_eval.specs.Sheets.{member_text}
use Rattle.aso_eval.proofs.axes.axis_of.Given as goal

abbrev pub invariant-loop-name : goal.invariant-loop-name
invariant-loop-name l = l.members.items ≡ map member_text (names (take l.name-index l.names))
