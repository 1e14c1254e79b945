use Rattle.std.proofs.Common.{◌≡◌, take}
use Rattle.aso_cellnames.specs.Slots.{leaves_in}
use Rattle.aso_cellnames.proofs.slots.leaves_in.Given as goal

abbrev pub invariant-loop-slot : goal.invariant-loop-slot
invariant-loop-slot l = l.leaves.items ≡ leaves_in (take l.slot-index l.slots)
