use Rattle.std.proofs.Common.{◌≡◌, ◌++◌, take}
use Rattle.std.specs.String.{string_bytes}
use Rattle.aso_grid.specs.Lines.{values_text}
use Rattle.aso_grid.proofs.row_text.put_values.Given as goal

abbrev pub invariant-loop-column : goal.invariant-loop-column
invariant-loop-column l = string_bytes l.line ≡ string_bytes l.fn.line ++ values_text l.plan l.values l.row (take l.column-index l.kept)
