-- What a region keeps: of each member a range of the numbers of its data leaves.
use Rattle.std.specs.Prelude.{◌≡◌, ◌<◌, ℕ, ◌==◌, Bool, true, false, not, ◌&&◌, List, [], length, map, Option, Some, nat_lt, if◌then◌else◌, slice_get, unwrap_or}
use Rattle.std.specs.Option.{option_map, option_and_then}
use Rattle.std.specs.List.{All, list_all, list_any, range_with_len, find as first}
use Rattle.aso_tree.specs.Trees.{places_of}
use Rattle.aso_outline.specs.declared.draft.Draft.{Draft}
use Rattle.aso_outline.specs.declared.seat.Seat.TheVariants.{Inner}
use Rattle.aso_outline.specs.Classes.{class_at, is_in, leaf_count}
use Rattle.aso_outline.specs.Heights.{top_of}
use Rattle.aso_outline.specs.Members.{dim_at, dim_of, holds, is_dynamic}
use Rattle.aso_outline.specs.Numbers.{seat_of}
use Rattle.aso_region.specs.declared.chosen.Chosen.{Chosen}
use Rattle.aso_region.specs.declared.region.Cover.{Cover}

-- ---- classes

-- by base dimension and hierarchy the class of each data leaf, if it has one
abbrev pub Tables : Type 0
Tables = List (List (List (Option ℕ)))

-- a stored hierarchy behind the first, with a level 1
abbrev pub has_table : Draft → ℕ → ℕ → Bool
has_table o d h = nat_lt 0 h && (not (is_dynamic o (Inner d h 0)) && nat_lt 0 (top_of o d h))

-- the member finds its leaves by their classes in this hierarchy
abbrev pub goes_by : ℕ → ℕ → Chosen → Bool
goes_by d h c = unwrap_or (option_map (λ own. c.dim == d && own == h) c.hier) false

-- some member of the tuples does
abbrev pub is_needed : List (List Chosen) → ℕ → ℕ → Bool
is_needed rows d h = list_any (list_any (goes_by d h)) rows

-- the classes of its data leaves at level 1, where a member needs them
abbrev pub table_of : Draft → List (List Chosen) → ℕ → ℕ → List (Option ℕ)
table_of o rows d h = if has_table o d h && is_needed rows d h then map (class_at o d h 1) (range_with_len 0 (leaf_count o d)) else []

abbrev pub tables_in : Draft → List (List Chosen) → ℕ → List (List (Option ℕ))
tables_in o rows d = map (table_of o rows d) (places_of (dim_at o d).hiers)

abbrev pub tables_for : Draft → List (List Chosen) → Tables
tables_for o rows = map (tables_in o rows) (places_of o.dims)

abbrev pub class_in : Tables → ℕ → ℕ → ℕ → Option ℕ
class_in tables d h leaf =
    option_and_then (λ (hs : List (List (Option ℕ))). option_and_then (λ (cs : List (Option ℕ)). option_and_then (λ (c : Option ℕ). c) (slice_get cs leaf)) (slice_get hs h)) (slice_get tables d)

-- ---- ranges

-- the number by which a member's range finds a leaf: its ordinal, or its class in a hierarchy
abbrev pub number_by : (ℕ → Option ℕ) → Chosen → ℕ → Option ℕ
number_by class c leaf = unwrap_or (option_map class c.hier) (Some leaf)

abbrev pub number_of : Tables → Chosen → ℕ → Option ℕ
number_of tables c leaf = number_by (λ h. class_in tables c.dim h leaf) c leaf

-- the number is in the range
abbrev pub is_found : Chosen → Option ℕ → Bool
is_found c number = unwrap_or (option_map (is_in (c.first, c.end)) number) false

abbrev pub in_range : Tables → Chosen → ℕ → Bool
in_range tables c leaf = is_found c (number_of tables c leaf)

abbrev pub holds_leaf : Tables → List ℕ → Chosen → Bool
holds_leaf tables leaves c = unwrap_or (option_map (in_range tables c) (slice_get leaves c.dim)) false

abbrev pub covers_kept : Cover → List ℕ → Bool
covers_kept r leaves = list_any (list_all (holds_leaf r.tables leaves)) r.rows

-- the range is that of the data leaves that the member holds
pub record IsChosen (o : Draft) (c : Chosen) : Type 0 where
  pub dim : c.dim ≡ dim_of (seat_of o c.member)
  pub low : c.dim < length o.dims
  pub table : (h : ℕ) → c.hier ≡ Some h → (h < length (dim_at o c.dim).hiers) × (has_table o c.dim h ≡ true)
  pub exact : (leaf : ℕ) → leaf < leaf_count o c.dim → is_found c (number_by (λ h. class_at o c.dim h 1 leaf) c leaf) ≡ holds o (seat_of o c.member) leaf

abbrev pub AreChosen : Draft → List Chosen → Type 0
AreChosen o row = All (IsChosen o) row

-- ---- members

abbrev pub members_of : List Chosen → List ℕ
members_of row = map (λ (c : Chosen). c.member) row

-- the member that a tuple has in a base dimension
abbrev pub member_in : List Chosen → ℕ → Option ℕ
member_in row d = option_map (λ (c : Chosen). c.member) (first (λ (c : Chosen). c.dim == d) row)

abbrev pub tuple_member : Cover → ℕ → ℕ → Option ℕ
tuple_member r tuple d = option_and_then (λ (row : List Chosen). member_in row d) (slice_get r.rows tuple)
