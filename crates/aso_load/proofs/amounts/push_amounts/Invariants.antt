use Rattle.std.proofs.Common.{◌≡◌, ◌++◌, drop}
use Rattle.aso_load.specs.Records.{amounts_in}
use Rattle.aso_load.proofs.amounts.push_amounts.Given as goal

abbrev pub invariant-loop-i : goal.invariant-loop-i
invariant-loop-i l = l.fn.amounts.items ++ amounts_in l.outline l.shared l.columns l.told ≡ l.amounts.items ++ amounts_in l.outline l.shared (drop l.i l.columns) (drop l.i l.told)
