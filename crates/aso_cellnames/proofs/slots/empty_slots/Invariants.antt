use Rattle.std.proofs.Common.{◌≡◌, ℕ, get_or, length, None}
use Rattle.aso_cellnames.proofs.slots.empty_slots.Given as goal

abbrev pub invariant-loop-i : goal.invariant-loop-i
invariant-loop-i l = record {
  long : length l.slots.items ≡ l._i;
  empty : (d : ℕ) → get_or l.slots.items d None ≡ None;
}
