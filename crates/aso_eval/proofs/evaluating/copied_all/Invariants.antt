use Rattle.std.proofs.Common.{◌≡◌, take}
use Rattle.aso_cellnames.specs.Names.{texts}
use Rattle.aso_eval.proofs.evaluating.copied_all.Given as goal

abbrev pub invariant-loop-name : goal.invariant-loop-name
invariant-loop-name l = l.all.items ≡ texts (take l.name-index l.names)
