-- The coordinates of a cell by the places of its dimensions among those that are named, which are found once.
use Rattle.std.specs.Prelude.{ℕ, List, ◌++◌, map, Option, slice_get, unwrap_or}
use Rattle.std.specs.Option.{option_and_then}
use Rattle.std.specs.List.{flat_map, position}
use Rattle.aso_tree.specs.Trees.{places_of}
use Rattle.aso_outline.specs.declared.draft.Draft.{Draft}
use Rattle.aso_outline.specs.declared.draft.Tuple.{Tuple}
use Rattle.aso_outline.specs.declared.seat.DimRef.{DimRef}
use Rattle.aso_outline.specs.declared.seat.DimRef.TheVariants.{Base, Attr}
use Rattle.aso_outline.specs.Numbers.{root_of}
use Rattle.aso_outline.specs.Targets.{number_of}
use Rattle.aso_axes.specs.Members.{same_dim}
use Rattle.aso_grid.specs.declared.places.Place.{Place}

-- where a base dimension's member stands, and its own member
abbrev pub base_place_of : Draft → List DimRef → ℕ → Place
base_place_of o dims d = record { named = position (same_dim (Base d)) dims; own = number_of o (root_of o (Base d)) }

abbrev pub base_places_of : Draft → List DimRef → List Place
base_places_of o dims = map (base_place_of o dims) (places_of o.dims)

abbrev pub attr_place_of : List DimRef → ℕ → Option ℕ
attr_place_of dims a = position (same_dim (Attr a)) dims

abbrev pub attr_places_of : Draft → List DimRef → List (Option ℕ)
attr_places_of o dims = map (attr_place_of dims) (places_of o.attrs)

-- the member at a place, where there is one
abbrev pub member_if : List ℕ → Option ℕ → Option ℕ
member_if members place = option_and_then (slice_get members) place

-- or else the dimension's own
abbrev pub member_of : List ℕ → Place → ℕ
member_of members place = unwrap_or (member_if members place.named) place.own

abbrev pub tuple_in : List Place → List (Option ℕ) → List ℕ → Tuple
tuple_in base attrs members = record { base = map (member_of members) base; attrs = map (member_if members) attrs }

abbrev pub tuples_of_row : List Place → List (Option ℕ) → List (List ℕ) → List ℕ → List ℕ → List Tuple
tuples_of_row base attrs columns slicer row = map (λ column. tuple_in base attrs (column ++ (row ++ slicer))) columns
