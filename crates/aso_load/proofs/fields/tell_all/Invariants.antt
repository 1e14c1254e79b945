use Rattle.std.proofs.Common.{◌≡◌, ◌++◌, drop}
use Rattle.csv.specs.Records.{fields_of}
use Rattle.aso_load.specs.Records.{told_all}
use Rattle.aso_load.proofs.fields.tell_all.Given as goal

abbrev pub invariant-loop-i : goal.invariant-loop-i
invariant-loop-i l = told_all l.outline l.columns (fields_of l.row) ≡ l.told_so_far.items ++ told_all l.outline (drop l.i l.columns) (drop l.i (fields_of l.row))
