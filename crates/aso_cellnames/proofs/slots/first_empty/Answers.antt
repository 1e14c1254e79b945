use Rattle.std.proofs.Common.{◌≡◌, ◌∙◌, true, sym}
use Rattle.std.specs.Prelude.{is_none, is_some}
use Rattle.aso_cellnames.specs.Slots.{slot_at}
use Rattle.aso_cellnames.proofs.FirstLeaves.{find_next, none_of_some}
use Rattle.aso_cellnames.proofs.slots.first_empty.Goals as goal

pub loop-dim-preserved : goal.loop-dim-preserved
loop-dim-preserved c =
    let slots = c.args.slots.now in
    let some : is_some (slot_at slots c.loop-dim.dim) ≡ true = rw c.if-is_none.false at c.is_none.ensures in
    sym (find_next (λ d. is_none (slot_at slots d)) c.loop-dim.dim _ c.loop-dim-test.true (none_of_some (slot_at slots c.loop-dim.dim) some)) ∙ c.loop-dim.invariant
