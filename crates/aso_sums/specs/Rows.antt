-- What the code finds for the coordinates of a tuple.
use Rattle.std.specs.Prelude.{◌≡◌, ◌<◌, ℕ, false, List, length, Option, Some, None}
use Rattle.std.specs.Global.{Vec}
use Rattle.aso_outline.specs.declared.draft.Draft.{Draft}
use Rattle.aso_spec.specs.Cells.{Key}
use Rattle.aso_sums.specs.Stored.{Coordinate, covers_at}
use Rattle.aso_sums.specs.Summing.{ArePlaced, CoverNone, pass_at}

-- the place of a coordinate's member, or none where the coordinate covers no cell
abbrev pub IsPlaceOf : Draft → List ℕ → Coordinate → Option ℕ → Type 0
IsPlaceOf o asked c None = (key : Key) → covers_at o key c ≡ false
IsPlaceOf o asked c (Some k) = (k < length asked) × ((key : Key) → covers_at o key c ≡ pass_at o key asked k)

abbrev pub TakesPlaces : Draft → List ℕ → List Coordinate → Option (Vec ℕ) → Type 0
TakesPlaces o asked cs None = CoverNone o cs
TakesPlaces o asked cs (Some places) = ArePlaced o asked places.items cs
