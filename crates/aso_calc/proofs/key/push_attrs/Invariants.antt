use Rattle.std.proofs.Common.{◌≡◌, ◌++◌, map, take}
use Rattle.aso_calc.specs.Keys.{attr_code}
use Rattle.aso_calc.proofs.key.push_attrs.Given as goal

abbrev pub invariant-loop-attr : goal.invariant-loop-attr
invariant-loop-attr l = l.key.items ≡ l.initial.key.items ++ map attr_code (take l.attr-index l.attrs)
