use Rattle.std.proofs.Common.{◌≡◌, ◌++◌, take}
use Rattle.aso_spec.specs.Grid.{shown}
use Rattle.aso_query.proofs.text.put_shown.Given as goal

abbrev pub invariant-loop-byte : goal.invariant-loop-byte
invariant-loop-byte l = l.out.items ≡ l.fn.out.items ++ shown (take l.byte-index l.name)
