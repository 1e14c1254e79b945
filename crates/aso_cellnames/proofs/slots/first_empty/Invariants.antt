use Rattle.std.proofs.Common.{◌≡◌, ◌-◌, length}
use Rattle.std.specs.Prelude.{is_none}
use Rattle.std.specs.List.{find, range_with_len}
use Rattle.aso_cellnames.specs.Slots.{slot_at}
use Rattle.aso_cellnames.proofs.slots.first_empty.Given as goal

abbrev pub invariant-loop-dim : goal.invariant-loop-dim
invariant-loop-dim l = find (λ d. is_none (slot_at l.slots d)) (range_with_len l.dim (length l.slots - l.dim)) ≡ find (λ d. is_none (slot_at l.slots d)) (range_with_len 0 (length l.slots))
