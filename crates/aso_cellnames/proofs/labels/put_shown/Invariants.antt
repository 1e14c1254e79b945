use Rattle.std.proofs.Common.{◌≡◌, ◌++◌, map, take}
use Rattle.aso_spec.specs.Grid.{shown_byte}
use Rattle.aso_cellnames.proofs.labels.put_shown.Given as goal

abbrev pub invariant-loop-byte : goal.invariant-loop-byte
invariant-loop-byte l = l.out.items ≡ l.initial.out.items ++ map shown_byte (take l.byte-index l.text)
