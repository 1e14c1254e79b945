use Rattle.std.proofs.Common.{take}
use Rattle.std.specs.Prelude.{All, ℕ, ℤ}
use Rattle.aso_num.specs.Amount.{IsAmount}
use Rattle.aso_runs.specs.Cells.{entries_of}
use Rattle.aso_buffer.proofs.past.first_past.Given as goal

abbrev pub invariant-loop-cell : goal.invariant-loop-cell
invariant-loop-cell g l = All (λ (e : ℕ × ℤ). IsAmount e.1) (take l.cell-index (entries_of l.cells))
