use Rattle.std.proofs.Common.{◌≡◌, take}
use Rattle.aso_cellnames.specs.Names.{texts}
use Rattle.aso_machine.proofs.refusing.texts_of.Given as goal

abbrev pub invariant-loop-name : goal.invariant-loop-name
invariant-loop-name l = texts l.texts.items ≡ take l.name-index l.names
