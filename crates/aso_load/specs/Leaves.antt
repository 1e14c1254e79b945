-- Lists of data leaves.
use Rattle.std.specs.Prelude.{◌≡◌, ◌<◌, ℕ, ℤ, List, length, slice_index, All}
use Rattle.aso_outline.specs.declared.draft.Draft.{Draft}
use Rattle.aso_outline.specs.Classes.{leaf_count}

-- the ordinal of a data leaf of each base dimension, in outline order
pub record AreLeaves (o : Draft) (leaves : List ℕ) : Type 0 where
  pub long : length leaves ≡ length o.dims
  pub each : (d : ℕ) → d < length o.dims → slice_index leaves d < leaf_count o d

-- each amount stands at data leaves of the outline
abbrev pub StandAtLeaves : Draft → List (List ℕ × ℤ) → Type 0
StandAtLeaves o amounts = All (λ (a : List ℕ × ℤ). AreLeaves o a.0) amounts
