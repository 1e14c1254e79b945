-- The lines by the places of the rows and columns are those of the grid.
use Rattle.std.specs.List.{All, filter, flat_map, range_with_len}
use Rattle.std.proofs.Common.{◌≡◌, ◌∙◌, ℕ, ◌≤◌, Bool, not, List, [], ◌∷◌, ◌++◌, length, map, refl, sym, ap, arith}
use Rattle.std.proofs.lemmas.List.Elements.{All-filter}
use Rattle.std.proofs.lemmas.List.FromFn.{get_or-range_with_len, length-range_with_len}
use Rattle.std.proofs.lemmas.List.Filters.{length-filter_both}
use Rattle.std.proofs.lemmas.List.Folds.{flat_map-map}
use Rattle.aso_num.specs.Numbers.{value_text}
use Rattle.aso_num.specs.declared.value.Val.{Val}
use Rattle.aso_outline.specs.declared.draft.Draft.{Draft}
use Rattle.aso_tree.specs.Trees.{places_of}
use Rattle.aso_spec.specs.Grid.{grid_text, tabbed}
use Rattle.aso_axes.specs.Members.{Own}
use Rattle.aso_grid.specs.declared.grid_plan.GridPlan.{GridPlan}
use Rattle.aso_grid.specs.Grids.{Placed, label_of, placed, value_of}
use Rattle.aso_grid.specs.Lines.{IsBelow, head_field, head_line, row_line, value_field, values_text}
use Rattle.aso_grid.proofs.PlanLemmas.{flat_same}

-- fields, each behind a tab, of what stands at some places
tabs : {X Y : Type 0} (f : Y → List ℕ) (g : X → Y) (xs : List X) → flat_map (λ field. 9 ∷ field) (map f (map g xs)) ≡ flat_map (λ x. 9 ∷ f (g x)) xs
tabs f g xs = flat_map-map (λ (field : List ℕ). 9 ∷ field) f (map g xs) ∙ flat_map-map (λ y. 9 ∷ f y) g xs

module _ (o : Draft) (own : Own) (p : GridPlan) (values : List Val) (columns : List ℕ) where
  head_is : tabbed [] (map (label_of o own) (map (placed p.columns.rows) columns)) ≡ head_line o own p.columns.rows columns
  head_is = ap (λ (text : List ℕ). text ++ 10 ∷ []) (tabs (label_of o own) (placed p.columns.rows) columns)

  line_of : Placed → List ℕ
  line_of row = tabbed (label_of o own row) (map (λ column. value_text (value_of p values row column)) (map (placed p.columns.rows) columns))

  line_is : (row : ℕ) → line_of (placed p.rows.rows row) ≡ row_line o own p values columns row
  unfolding line_of
  line_is row =
      ap (λ (text : List ℕ). label_of o own (placed p.rows.rows row) ++ text ++ 10 ∷ [])
      (tabs (λ (column : Placed). value_text (value_of p values (placed p.rows.rows row) column)) (placed p.columns.rows) columns)

  pub lines_are : (rows : List ℕ) → grid_text (label_of o own) (value_of p values) (map (placed p.columns.rows) columns) (map (placed p.rows.rows) rows)
      ≡ head_line o own p.columns.rows columns ++ flat_map (row_line o own p values columns) rows
  unfolding grid_text line_of
  lines_are rows =
      ap (λ (text : List ℕ). text ++ flat_map line_of (map (placed p.rows.rows) rows)) head_is
      ∙ ap (λ (text : List ℕ). head_line o own p.columns.rows columns ++ text)
      (flat_map-map line_of (placed p.rows.rows) rows ∙ flat_same (λ row. line_of (placed p.rows.rows row)) (row_line o own p values columns) line_is rows)

  pub lines_made : (rows kept_rows kept_columns : List ℕ) (head text : List ℕ) → columns ≡ kept_columns → rows ≡ kept_rows → head ≡ head_line o own p.columns.rows columns
      → text ≡ head ++ flat_map (row_line o own p values columns) rows
      → text ≡ grid_text (label_of o own) (value_of p values) (map (placed p.columns.rows) kept_columns) (map (placed p.rows.rows) kept_rows)
  lines_made rows kept_rows kept_columns head text same_columns same_rows at_head at_rows =
      at_rows
      ∙ (ap (λ (h : List ℕ). h ++ flat_map (row_line o own p values columns) rows) at_head
      ∙ (sym (lines_are rows)
      ∙ (ap (λ (cs : List ℕ). grid_text (label_of o own) (value_of p values) (map (placed p.columns.rows) cs) (map (placed p.rows.rows) rows)) same_columns
      ∙ ap (λ (rs : List ℕ). grid_text (label_of o own) (value_of p values) (map (placed p.columns.rows) kept_columns) (map (placed p.rows.rows) rs)) same_rows)))

-- ---- places

below : (n : ℕ) → All (IsBelow n) (range_with_len 0 n)
below n = λ k d low.
    let long = length-range_with_len 0 n in
    omega (arith, get_or-range_with_len 0 n k d (omega (arith, low, long)), low, long)

pub are_below : {X : Type 0} (p : ℕ → Bool) (xs : List X) → All (IsBelow (length xs)) (filter p (places_of xs))
are_below p xs = All-filter p (IsBelow (length xs)) (places_of xs) (below (length xs))

pub few_kept : {X : Type 0} (p : ℕ → Bool) (xs : List X) → length (filter p (places_of xs)) ≤ length xs
few_kept p xs = omega (arith, length-filter_both p (λ x. not (p x)) (λ x. refl) (places_of xs), length-range_with_len 0 (length xs))
