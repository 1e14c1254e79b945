use Rattle.std.proofs.Common.{◌≡◌, [], drop}
use Rattle.aso_cellnames.specs.Names.{texts, misplaced}
use Rattle.aso_cellnames.proofs.naming.misplaced.Given as goal

abbrev pub invariant-loop-name : goal.invariant-loop-name
invariant-loop-name l = misplaced l.outline l.taken.items (texts (drop l.name-index l.names)) ≡ misplaced l.outline [] (texts l.names)
