-- Which cells tuples cover.
use Rattle.std.specs.Prelude.{◌≡◌, ◌<◌, ℕ, Bool, false, List, length, slice_get, slice_index, unwrap_or}
use Rattle.std.specs.Option.{option_map}
use Rattle.std.specs.List.{list_all, list_any}
use Rattle.aso_outline.specs.declared.draft.Draft.{Draft}
use Rattle.aso_outline.specs.Classes.{leaf_count}
use Rattle.aso_outline.specs.Members.{dim_of, holds}
use Rattle.aso_outline.specs.Numbers.{seat_of}

-- a data leaf of each base dimension, in outline order
pub record AreLeaves (o : Draft) (leaves : List ℕ) : Type 0 where
  pub long : length leaves ≡ length o.dims
  pub each : (d : ℕ) → d < length o.dims → slice_index leaves d < leaf_count o d

-- the member holds the leaf of its dimension
abbrev pub member_holds : Draft → List ℕ → ℕ → Bool
member_holds o leaves m = unwrap_or (option_map (holds o (seat_of o m)) (slice_get leaves (dim_of (seat_of o m)))) false

-- A tuple covers the cell of some leaves where each of its members holds the leaf of its dimension. A dimension that it doesn't
-- name is covered whole.
abbrev pub tuple_covers : Draft → List ℕ → List ℕ → Bool
tuple_covers o leaves members = list_all (member_holds o leaves) members

-- some tuple covers the cell
abbrev pub covers : Draft → List (List ℕ) → List ℕ → Bool
covers o tuples leaves = list_any (tuple_covers o leaves) tuples
