use Rattle.std.proofs.Common.{◌≡◌, ◌≤◌, drop, length, reverse, string_bytes}
use Rattle.aso_outjson.specs.Pointer.{pointer}
use Rattle.aso_outjson.proofs.pointer.pointer.Given as goal

abbrev pub invariant-loop-left : goal.invariant-loop-left
invariant-loop-left l = record {
  within : l.left ≤ length l.names;
  so_far : string_bytes l.out ≡ pointer (reverse (drop l.left l.names));
}

abbrev pub decreases-loop-left : goal.decreases-loop-left
decreases-loop-left l = l.left
