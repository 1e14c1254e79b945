-- The lines of a grid by the places of the rows and columns that are printed.
use Rattle.std.specs.Prelude.{ℕ, ◌<◌, ◌++◌, ◌∷◌, List, [], length, map}
use Rattle.std.specs.List.{flat_map}
use Rattle.aso_num.specs.Numbers.{value_text}
use Rattle.aso_num.specs.declared.value.Val.{Val}
use Rattle.aso_outline.specs.declared.draft.Draft.{Draft}
use Rattle.aso_axes.specs.Members.{Own}
use Rattle.aso_grid.specs.declared.grid_plan.GridPlan.{GridPlan}
use Rattle.aso_grid.specs.Grids.{label_of, placed, value_at}

abbrev pub IsBelow : ℕ → ℕ → Type 0
IsBelow end n = n < end

abbrev pub head_field : Draft → Own → List (List ℕ) → ℕ → List ℕ
head_field o own columns column = 9 ∷ label_of o own (placed columns column)

abbrev pub head_line : Draft → Own → List (List ℕ) → List ℕ → List ℕ
head_line o own columns kept = flat_map (head_field o own columns) kept ++ 10 ∷ []

abbrev pub value_field : GridPlan → List Val → ℕ → ℕ → List ℕ
value_field p values row column = 9 ∷ value_text (value_at p values row column)

abbrev pub values_text : GridPlan → List Val → ℕ → List ℕ → List ℕ
values_text p values row kept = flat_map (value_field p values row) kept

abbrev pub row_line : Draft → Own → GridPlan → List Val → List ℕ → ℕ → List ℕ
row_line o own p values kept row = label_of o own (placed p.rows.rows row) ++ values_text p values row kept ++ 10 ∷ []
