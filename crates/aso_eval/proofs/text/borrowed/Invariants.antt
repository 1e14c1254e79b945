use Rattle.std.proofs.Common.{◌≡◌, take}
use Rattle.aso_cellnames.specs.Names.{texts}
use Rattle.aso_eval.proofs.text.borrowed.Given as goal

abbrev pub invariant-loop-name : goal.invariant-loop-name
invariant-loop-name l = texts l.all.items ≡ take l.name-index l.names
