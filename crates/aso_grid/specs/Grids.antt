-- The lines of a planned grid over the values of its cells.
use Rattle.std.specs.Prelude.{ℕ, ◌+◌, ◌*◌, Bool, true, false, ◌||◌, List, [], length, map, slice_get, unwrap_or}
use Rattle.std.specs.List.{filter, list_any}
use Rattle.aso_tree.specs.Trees.{places_of}
use Rattle.aso_num.specs.declared.value.Val.{Val}
use Rattle.aso_num.specs.declared.value.Val.TheVariants.{Missing, Num}
use Rattle.aso_outline.specs.declared.draft.Draft.{Draft}
use Rattle.aso_spec.specs.Grid.{grid_text, label}
use Rattle.aso_axes.specs.Members.{Own, name_of}
use Rattle.aso_grid.specs.declared.grid_plan.GridPlan.{GridPlan}

-- the value at a row and a column, by their places
abbrev pub value_at : GridPlan → List Val → ℕ → ℕ → Val
value_at p values row column = unwrap_or (slice_get values (row * length p.columns.rows + column)) Missing

abbrev pub is_there : Val → Bool
is_there Missing = false
is_there (Num n) = true

-- some value of the row, of the whole grid, isn't missing
abbrev pub is_row_filled : GridPlan → List Val → ℕ → Bool
is_row_filled p values row = list_any (λ column. is_there (value_at p values row column)) (places_of p.columns.rows)

abbrev pub is_column_filled : GridPlan → List Val → ℕ → Bool
is_column_filled p values column = list_any (λ row. is_there (value_at p values row column)) (places_of p.rows.rows)

-- a row is printed, or a column
abbrev pub is_row_kept : GridPlan → List Val → ℕ → Bool
is_row_kept p values row = p.empty_rows || is_row_filled p values row

abbrev pub is_column_kept : GridPlan → List Val → ℕ → Bool
is_column_kept p values column = p.empty_columns || is_column_filled p values column

-- their places
abbrev pub kept_rows : GridPlan → List Val → List ℕ
kept_rows p values = filter (is_row_kept p values) (places_of p.rows.rows)

abbrev pub kept_columns : GridPlan → List Val → List ℕ
kept_columns p values = filter (is_column_kept p values) (places_of p.columns.rows)

-- a tuple with its place
abbrev pub Placed : Type 0
Placed = ℕ × List ℕ

abbrev pub placed : List (List ℕ) → ℕ → Placed
placed tuples at = (at, unwrap_or (slice_get tuples at) [])

-- the names of its members
abbrev pub label_of : Draft → Own → Placed → List ℕ
label_of o own t = label (map (name_of o own) t.1)

abbrev pub value_of : GridPlan → List Val → Placed → Placed → Val
value_of p values row column = value_at p values row.0 column.0

abbrev pub grid_lines : Draft → Own → GridPlan → List Val → List ℕ
grid_lines o own p values =
    grid_text (label_of o own) (value_of p values) (map (placed p.columns.rows) (kept_columns p values)) (map (placed p.rows.rows) (kept_rows p values))
