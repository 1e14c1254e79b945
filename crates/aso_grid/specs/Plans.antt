-- What a query asks: the tuples of its axes, and the coordinates of each cell.
use Rattle.std.specs.Prelude.{◌≡◌, ◌≤◌, ◌*◌, ℕ, Bool, true, not, List, [], ◌∷◌, ◌++◌, length, map, Option, Some, None, nat_lt, slice_get, unwrap_or}
use Rattle.std.specs.Option.{option_map, option_and_then}
use Rattle.std.specs.List.{flat_map, position, find as first}
use Rattle.aso_tree.specs.Trees.{places_of}
use Rattle.aso_outline.specs.declared.draft.Draft.{Draft}
use Rattle.aso_outline.specs.declared.draft.Tuple.{Tuple}
use Rattle.aso_outline.specs.declared.seat.DimRef.{DimRef}
use Rattle.aso_outline.specs.declared.seat.DimRef.TheVariants.{Base, Attr}
use Rattle.aso_outline.specs.Members.{Name}
use Rattle.aso_outline.specs.Numbers.{root_of}
use Rattle.aso_outline.specs.Targets.{number_of}
use Rattle.aso_mdx.specs.declared.query.Axis.{Axis}
use Rattle.aso_mdx.specs.declared.query.Query.{Query}
use Rattle.aso_mdx.specs.declared.query.SetText.{SetText}
use Rattle.aso_axes.specs.declared.fault.AxisFault.{AxisFault}
use Rattle.aso_axes.specs.declared.fault.AxisFault.TheVariants.{UnknownMember, Dimension, TooLarge, NoMemory}
use Rattle.aso_axes.specs.declared.fault.AxisTuples.{AxisTuples}
use Rattle.aso_axes.specs.declared.part.Purpose.TheVariants as purpose
use Rattle.aso_axes.specs.Answers.{counted, tuples_of}
use Rattle.aso_axes.specs.Members.{Own, same_dim}
use Rattle.aso_axes.specs.Sets.{Path, Said, dim_at, first_unknown, member_at, paths_of, said_of, said_of_both, said_of_tuple}
use Rattle.aso_grid.specs.declared.grid_plan.GridPlan.{GridPlan}

-- ---- names

-- the set of the rows, where there are rows
abbrev pub set_of_rows : Query → Option SetText
set_of_rows q = option_map (λ (a : Axis). a.set) q.rows

-- the members of a query in text order
abbrev pub query_paths : Query → List Path
query_paths q = paths_of q.columns.set ++ (unwrap_or (option_map paths_of (set_of_rows q)) [] ++ q.slicer)

-- the first name that no member has
abbrev pub unknown_in : Draft → Own → Query → Option Name
unknown_in o own q = first_unknown o own (query_paths q)

-- ---- dimensions

-- where a query has no rows, they are one tuple without members
abbrev pub said_of_rows : Draft → Own → Query → Said
said_of_rows o own q = unwrap_or (option_map (said_of o own purpose.Axis) (set_of_rows q)) (said_of_tuple o own purpose.Axis [])

-- columns, rows and slicer name different dimensions, as the sides of a crossing do
abbrev pub said_of_query : Draft → Own → Query → Said
said_of_query o own q = said_of_both (said_of o own purpose.Axis q.columns.set) (said_of_both (said_of_rows o own q) (said_of_tuple o own purpose.Axis q.slicer))

-- the first name that breaks a rule of dimensions
abbrev pub wrong_in : Draft → Own → Query → Option Name
wrong_in o own q = (said_of_query o own q).wrong [] None

-- ---- tuples

abbrev pub columns_of : Draft → Own → Query → AxisTuples
columns_of o own q = tuples_of o own purpose.Axis q.columns.set

abbrev pub no_axis : AxisTuples
no_axis = record { dims = []; rows = [] ∷ [] }

abbrev pub rows_of : Draft → Own → Query → AxisTuples
rows_of o own q = unwrap_or (option_map (tuples_of o own purpose.Axis) (set_of_rows q)) no_axis

-- how many columns, rows and cells there are
abbrev pub sizes_of : ℕ → ℕ → List ℕ
sizes_of columns rows = columns ∷ rows ∷ rows * columns ∷ []

-- the first size that is too great
abbrev pub excess : ℕ → ℕ → Option ℕ
excess columns rows = first (nat_lt 100000) (sizes_of columns rows)

abbrev pub excess_in : Draft → Own → Query → Option ℕ
excess_in o own q = excess (length (columns_of o own q).rows) (length (rows_of o own q).rows)

-- ---- cells

-- the member in a dimension, where one is named
abbrev pub named_in : List DimRef → List ℕ → DimRef → Option ℕ
named_in dims members dim = option_and_then (slice_get members) (position (same_dim dim) dims)

-- a base dimension that isn't named stands at its own member
abbrev pub base_at : Draft → List DimRef → List ℕ → ℕ → ℕ
base_at o dims members d = unwrap_or (named_in dims members (Base d)) (number_of o (root_of o (Base d)))

abbrev pub attr_at : List DimRef → List ℕ → ℕ → Option ℕ
attr_at dims members a = named_in dims members (Attr a)

-- the coordinates of a cell of these members
abbrev pub coordinates : Draft → List DimRef → List ℕ → Tuple
coordinates o dims members = record { base = map (base_at o dims members) (places_of o.dims); attrs = map (attr_at dims members) (places_of o.attrs) }

-- the cells of a row, column by column
abbrev pub cells_of_row : Draft → List DimRef → List (List ℕ) → List ℕ → List ℕ → List Tuple
cells_of_row o dims columns slicer row = map (λ column. coordinates o dims (column ++ (row ++ slicer))) columns

-- row by row
abbrev pub cells_of : Draft → List DimRef → List (List ℕ) → List (List ℕ) → List ℕ → List Tuple
cells_of o dims columns rows slicer = flat_map (cells_of_row o dims columns slicer) rows

-- The cells of columns, rows and slicer. Each member that is named stands at the place of its dimension.
abbrev pub cells_over : Draft → Own → AxisTuples → AxisTuples → List Path → List Tuple
cells_over o own columns rows slicer = cells_of o (columns.dims ++ (rows.dims ++ map (dim_at o own) slicer)) columns.rows rows.rows (map (member_at o own) slicer)

-- ---- the answer

-- rows that are all missing are printed too
abbrev pub empty_rows_of : Query → Bool
empty_rows_of q = unwrap_or (option_map (λ (a : Axis). not a.non_empty) q.rows) true

abbrev pub plan_of : Draft → Own → Query → GridPlan
plan_of o own q = record {
  columns = columns_of o own q;
  rows = rows_of o own q;
  cells = cells_over o own (columns_of o own q) (rows_of o own q) q.slicer;
  empty_columns = not q.columns.non_empty;
  empty_rows = empty_rows_of q;
}

-- at most 100,000 columns and as many rows, and a cell for each column of each row
pub record IsSized (p : GridPlan) : Type 0 where
  pub few_columns : length p.columns.rows ≤ 100000
  pub few_rows : length p.rows.rows ≤ 100000
  pub cells : length p.cells ≡ length p.rows.rows * length p.columns.rows

-- each cell has one member for each base dimension
abbrev pub AreLong : Draft → List Tuple → Type 0
AreLong o cells = (k : ℕ) (t : Tuple) → slice_get cells k ≡ Some t → length t.base ≡ length o.dims

-- each name is that of a member
abbrev pub IsKnown : Draft → Own → Query → Type 0
IsKnown o own q = unknown_in o own q ≡ None

-- and no member breaks a rule of dimensions
abbrev pub IsPlaced : Draft → Own → Query → Type 0
IsPlaced o own q = IsKnown o own q × (wrong_in o own q ≡ None)

-- and no size is too great
abbrev pub IsTaken : Draft → Own → Query → Type 0
IsTaken o own q = IsPlaced o own q × (excess_in o own q ≡ None)

-- why a query isn't taken: the first of these that holds
abbrev pub IsQueryRefusal : Draft → Own → Query → AxisFault → Type 0
IsQueryRefusal o own q (UnknownMember name) = unknown_in o own q ≡ Some name
IsQueryRefusal o own q (Dimension name) = IsKnown o own q × (wrong_in o own q ≡ Some name)
IsQueryRefusal o own q (TooLarge cells) = IsPlaced o own q × (option_map counted (excess_in o own q) ≡ Some cells)
IsQueryRefusal o own q (NoMemory e) = Unit {0}
