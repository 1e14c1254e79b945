-- The first cell of a run whose amount is out of range.
use Rattle.std.specs.Prelude.{◌≡◌, ℕ, ◌<◌, ℤ, Some, IfSome}
use Rattle.aso_num.specs.Amount.{IsAmount}
use Rattle.aso_runs.specs.Runs.{Entries, value_at}

pub record IsFirstPast (e : ℕ × ℤ) (run : Entries) : Type 0 where
  pub there : value_at e.0 run ≡ Some e.1
  pub past : IsAmount e.1 → ⊥
  pub least : (key : ℕ) → key < e.0 → IfSome (value_at key run) IsAmount
