-- The stored value of a tuple: the sum of the cells whose leaves its members hold and carry.
use Rattle.std.specs.Prelude.{ℕ, Bool, false, ◌&&◌, List, ◌++◌, length, map, Option, None, ◌==◌, slice_get, slice_index, slice_index_or, unwrap_or}
use Rattle.std.specs.Option.{option_map}
use Rattle.std.specs.List.{filter_map, list_all, position}
use Rattle.aso_num.specs.declared.value.Val.{Val}
use Rattle.aso_tree.specs.Trees.{places_of}
use Rattle.aso_outline.specs.declared.draft.Draft.{Draft}
use Rattle.aso_outline.specs.declared.draft.DraftDim.{DraftDim}
use Rattle.aso_outline.specs.declared.draft.Tuple.{Tuple}
use Rattle.aso_outline.specs.declared.seat.DimRef.{DimRef}
use Rattle.aso_outline.specs.declared.seat.DimRef.TheVariants.{Base, Attr}
use Rattle.aso_outline.specs.declared.seat.Seat.{Seat}
use Rattle.aso_outline.specs.declared.seat.Seat.TheVariants.{Whole, Inner, Carried}
use Rattle.aso_outline.specs.Classes.{carries}
use Rattle.aso_outline.specs.Members.{holds, same_name, seats}
use Rattle.aso_outline.specs.Rules.{base_of}
use Rattle.aso_spec.specs.Cells.{Cells, Key, total}

-- ---- the coordinates of a tuple, each a dimension and a member's number

abbrev pub Coordinate : Type 0
Coordinate = DimRef × ℕ

abbrev pub base_coordinate : Tuple → ℕ → Coordinate
base_coordinate t d = (Base d, slice_index t.base d)

-- the attribute dimension with the member that is asked of it, where one is
abbrev pub attr_coordinate : Tuple → ℕ → Option Coordinate
attr_coordinate t a = option_map (λ m. (Attr a, m)) (slice_index_or t.attrs a None)

abbrev pub coordinates : Tuple → List Coordinate
coordinates t = map (base_coordinate t) (places_of t.base) ++ filter_map (attr_coordinate t) (places_of t.attrs)

-- ---- the leaves of a cell, one for each base dimension

-- the base dimension whose leaves may carry the members of an attribute dimension
abbrev pub attr_dim : Draft → ℕ → Option ℕ
attr_dim o a = position (λ (d : DraftDim). same_name (base_of o a) d.name) o.dims

-- the cell's leaf of this dimension carries the member, or one below it
abbrev pub leaf_carries : Draft → Key → Seat → ℕ → Bool
leaf_carries o key s d = carries o d (slice_index key d) s

-- The member holds the cell's leaf of its dimension. A member of an attribute dimension is carried by that of its base dimension.
abbrev pub covers_leaf : Draft → Key → Seat → Bool
covers_leaf o key (Whole d) = holds o (Whole d) (slice_index key d)
covers_leaf o key (Inner d h i) = holds o (Inner d h i) (slice_index key d)
covers_leaf o key (Carried a i) = unwrap_or (option_map (leaf_carries o key (Carried a i)) (attr_dim o a)) false

-- the member stands in the dimension
abbrev pub is_in : DimRef → Seat → Bool
is_in (Base d) (Whole e) = d == e
is_in (Base d) (Inner e h i) = d == e
is_in (Attr a) (Carried b i) = a == b
is_in dim s = false

-- the member of this number stands in its dimension, and holds the cell's leaf or is carried by it
abbrev pub covers_at : Draft → Key → Coordinate → Bool
covers_at o key c = unwrap_or (option_map (λ s. is_in c.0 s && covers_leaf o key s) (slice_get (seats o) c.1)) false

-- ---- tuples

-- there is a member for each base dimension, and each coordinate covers the cell
unfoldable pub covers : Draft → Tuple → Key → Bool
covers o t key = (length t.base == length o.dims) && list_all (covers_at o key) (coordinates t)

-- the stored value of a tuple over the cells; missing where it covers none
unfoldable pub stored_value : Draft → Cells → Tuple → Val
stored_value o cells t = total (covers o t) cells
