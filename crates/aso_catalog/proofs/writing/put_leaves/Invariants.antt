use Rattle.std.proofs.Common.{◌≡◌, ◌≤◌, ◌++◌, take}
use Rattle.std.specs.Prelude.{vec_capacity}
use Rattle.aso_catalog.specs.Record.{leaves_text}
use Rattle.aso_catalog.proofs.writing.put_leaves.Given as goal

abbrev pub invariant-loop-leaf : goal.invariant-loop-leaf
invariant-loop-leaf l = record {
  written : l.out.items ≡ l.initial.out.items ++ leaves_text (take l.leaf-index l.leaves);
  grows : vec_capacity l.initial.out ≤ vec_capacity l.out;
}
