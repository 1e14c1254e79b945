use Rattle.std.proofs.Common.{◌≡◌, ◌≤◌, drop}
use Rattle.aso_load.specs.Fields.{end_of}
use Rattle.aso_load.proofs.Steps.{end_with}
use Rattle.aso_load.proofs.spaces.end_of.Given as goal

abbrev pub invariant-loop-i : goal.invariant-loop-i
invariant-loop-i l = record {
  value : end_of l.field ≡ end_with l.end l.i (end_of (drop l.i l.field));
  within : l.end ≤ l.i;
}
