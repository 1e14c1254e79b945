-- What sums have of some cells.
use Rattle.std.specs.Prelude.{◌≡◌, ◌<◌, ◌≤◌, ◌*◌, ◌^◌, ℕ, ℤ, Bool, false, List, ◌∷◌, length, map, Option, Some, None, unsigned_abs, if◌then◌else◌, slice_get, slice_index_or, unwrap_or, ⊤}
use Rattle.std.specs.Option.{option_map}
use Rattle.std.specs.List.{AllZip, All, list_all}
use Rattle.aso_num.specs.declared.value.Val.{Val}
use Rattle.aso_num.specs.declared.value.Val.TheVariants.{Missing, Num}
use Rattle.aso_num.specs.Numbers.{sum_of}
use Rattle.aso_outline.specs.declared.draft.Draft.{Draft}
use Rattle.aso_outline.specs.declared.draft.Tuple.{Tuple}
use Rattle.aso_outline.specs.Classes.{leaf_count}
use Rattle.aso_outline.specs.Members.{seats}
use Rattle.aso_spec.specs.Cells.{Cells, Key}
use Rattle.aso_sums.specs.declared.sums.Sums.{Sums}
use Rattle.aso_sums.specs.Stored.{Coordinate, covers, covers_at, covers_leaf, stored_value}

-- one leaf for each base dimension
pub record AreLeaves (o : Draft) (key : Key) : Type 0 where
  pub long : length key ≡ length o.dims
  pub leaves : (d : ℕ) (leaf : ℕ) → slice_get key d ≡ Some leaf → leaf < leaf_count o d

-- ---- tuples by the places of their members

-- the member of a number covers the cell's leaf of its dimension
abbrev pub passes : Draft → Key → ℕ → Bool
passes o key m = unwrap_or (option_map (covers_leaf o key) (slice_get (seats o) m)) false

-- the member at a place of a list passes
abbrev pub pass_at : Draft → Key → List ℕ → ℕ → Bool
pass_at o key asked k = unwrap_or (option_map (passes o key) (slice_get asked k)) false

-- coordinates by the places of their members among those that are asked
pub record ArePlaced (o : Draft) (asked : List ℕ) (places : List ℕ) (cs : List Coordinate) : Type 0 where
  pub low : All (λ k. k < length asked) places
  pub same : (key : Key) → list_all (covers_at o key) cs ≡ list_all (pass_at o key asked) places

-- some coordinate covers no cell
abbrev pub CoverNone : Draft → List Coordinate → Type 0
CoverNone o cs = (key : Key) → list_all (covers_at o key) cs ≡ false

-- a tuple by those places, or by none where it covers no cell
abbrev pub IsRow : Draft → List ℕ → Option (List ℕ) → Tuple → Type 0
IsRow o asked None t = (key : Key) → covers o t key ≡ false
IsRow o asked (Some places) t = All (λ k. k < length asked) places × ((key : Key) → covers o t key ≡ list_all (pass_at o key asked) places)

-- ---- one cell more

-- a row's places all have the mark
abbrev pub row_passes : List Bool → Option (List ℕ) → Bool
row_passes marks None = false
row_passes marks (Some places) = list_all (λ k. slice_index_or marks k false) places

abbrev pub value_with : Bool → Val → ℤ → Val
value_with passes v z = if passes then sum_of v (Num z) else v

-- the amount is added to the values whose rows pass
abbrev pub values_with : List Bool → ℤ → List (Option (List ℕ)) → List Val → List Val
values_with marks z (r ∷ rs) (v ∷ vs) = value_with (row_passes marks r) v z ∷ values_with marks z rs vs
values_with marks z rs vs = vs

-- a value that so many amounts may sum to
abbrev pub IsWithin : ℕ → Val → Type 0
IsWithin n Missing = ⊤
IsWithin n (Num z) = unsigned_abs z ≤ n * 10 ^ 18

-- sums over an outline: members of it are asked, and there is a value for each row, which so many amounts may sum to
pub record AreSums (o : Draft) (s : Sums) : Type 0 where
  pub asked : All (λ m. m < length (seats o)) s.asked.items
  pub each : length s.rows.items ≡ length s.values.items
  pub within : All (IsWithin s.count) s.values.items

-- the stored values of the tuples over the cells so far
pub record HasSums (o : Draft) (tuples : List Tuple) (cells : Cells) (s : Sums) : Type 0 where
  pub are : AreSums o s
  pub rows : AllZip (IsRow o s.asked.items) s.rows.items tuples
  pub values : s.values.items ≡ map (stored_value o cells) tuples
