use Rattle.std.proofs.Common.{take}
use Rattle.aso_cellnames.specs.Names.{texts}
use Rattle.aso_cellnames.specs.Slots.{AreFirst}
use Rattle.aso_cellnames.proofs.slots.slots_named.Given as goal

abbrev pub invariant-loop-name : goal.invariant-loop-name
invariant-loop-name l = AreFirst l.outline (texts (take l.name-index l.names)) l.slots.items
