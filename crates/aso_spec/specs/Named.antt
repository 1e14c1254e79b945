-- What names stand for in an outline: a member, a cell, or an axis.
use Rattle.std.specs.Prelude.{ℕ, zero, Bool, false, ◌&&◌, List, map, length, Option, Some, None, nat_lt, nat_le, ◌==◌, if◌then◌else◌, slice_get, slice_index, unwrap_or}
use Rattle.std.specs.Option.{option_map, option_and_then}
use Rattle.std.specs.List.{filter, filter_map, list_all, range_with_len}
use Rattle.aso_tree.specs.Trees.{places_of}
use Rattle.aso_outline.specs.declared.draft.Draft.{Draft}
use Rattle.aso_outline.specs.declared.seat.Seat.{Seat}
use Rattle.aso_outline.specs.declared.seat.Seat.TheVariants.{Whole, Inner, Carried}
use Rattle.aso_outline.specs.Members.{Name, dim_at, dim_of, is_data_leaf}
use Rattle.aso_outline.specs.Ranks.{named, is_of_dim}

-- a dimension's own member
abbrev pub own_seat : Draft → ℕ → Seat
own_seat o d = if nat_lt 1 (length (dim_at o d).hiers) then Whole d else Inner d 0 0

-- the member of a name that there is
abbrev pub seat_of : Draft → Name → Seat
seat_of o name = unwrap_or (named o name) (Whole 0)

-- a test of the member of a name
abbrev pub names_one : (Seat → Bool) → Draft → Name → Bool
names_one test o name = unwrap_or (option_map test (named o name)) false

-- ---- cells

-- the ordinal of the data leaf at a place of a dimension's first hierarchy: how many data leaves stand before it
abbrev pub leaf_ordinal : Draft → ℕ → ℕ → Option ℕ
leaf_ordinal o d i = if is_data_leaf o (Inner d 0 i) then Some (length (filter (λ j. is_data_leaf o (Inner d 0 j)) (range_with_len 0 i))) else None

abbrev pub ordinal_in : Draft → ℕ → Seat → Option ℕ
ordinal_in o d (Inner e zero i) = if d == e then leaf_ordinal o e i else None
ordinal_in o d s = None

-- the ordinals of the data leaves of a dimension that some names name
unfoldable pub ordinals_named : Draft → List Name → ℕ → List ℕ
ordinals_named o names d = filter_map (λ name. option_and_then (ordinal_in o d) (named o name)) names

-- each name is a data leaf's, and each base dimension has one of them
unfoldable pub names_a_cell : Draft → List Name → Bool
names_a_cell o names =
    (length names == length o.dims)
    && (list_all (names_one (is_data_leaf o) o) names && list_all (λ d. length (ordinals_named o names d) == 1) (places_of o.dims))

-- the cell that some names name: for each dimension the ordinal of its leaf
unfoldable pub key_named : Draft → List Name → List ℕ
key_named o names = map (λ d. slice_index (ordinals_named o names d) 0) (places_of o.dims)

-- ---- axes

-- the dimension of the first name
abbrev pub axis_dim : Draft → List Name → ℕ
axis_dim o names = unwrap_or (option_map dim_of (option_and_then (named o) (slice_get names 0))) 0

-- from 1 to 64 names, each of a member of one base dimension
unfoldable pub is_axis : Draft → List Name → Bool
is_axis o names = (nat_lt 0 (length names) && nat_le (length names) 64) && list_all (names_one (is_of_dim (axis_dim o names)) o) names
