-- What the definitions give of queries over the Basic outline: rows, columns, a slicer and an attribute, by hand.
use Rattle.std.specs.Prelude.{pos}
use Rattle.std.specs.Fmt.{digits}
use Rattle.std.proofs.Common.{◌≡◌, ℕ, Bool, List, [], ◌∷◌, Option, true, false, refl, codes, Some, None}
use Rattle.aso_outline.specs.declared.draft.Expr.TheBlock.{hidden-the_row-Expr-0}
use Rattle.aso_outline.specs.declared.draft.Tuple.{Tuple}
use Rattle.aso_outline.specs.declared.seat.DimRef.TheVariants.{Base, Attr}
use Rattle.aso_outline.specs.Members.{seats}
use Rattle.aso_outline.specs.Tables.{before_attr, before_dim, before_hier}
use Rattle.aso_outline.proofs.Basic.{basic}
use Rattle.aso_num.specs.declared.value.Val.{Val}
use Rattle.aso_num.specs.declared.value.Val.TheVariants.{Missing, Num}
use Rattle.aso_spec.specs.Grid.{grid_text}
use Rattle.aso_grid.specs.declared.grid_plan.GridPlan.{GridPlan}
use Rattle.aso_grid.specs.Grids.{grid_lines, kept_columns, kept_rows}
use Rattle.aso_grid.specs.Plans.{cells_of, excess}

abbrev cell : List ℕ → List (Option ℕ) → Tuple
cell base attrs = record { base = base; attrs = attrs }

-- Columns Jan (1) and Feb (2), rows NY (6) and CA (8) with Large (21), slicer Sales (16).
cells : cells_of basic (Base 0 ∷ Base 1 ∷ Attr 0 ∷ Base 2 ∷ []) ((1 ∷ []) ∷ (2 ∷ []) ∷ []) ((6 ∷ 21 ∷ []) ∷ (8 ∷ 21 ∷ []) ∷ []) (16 ∷ [])
    ≡ (cell (1 ∷ 6 ∷ 16 ∷ []) (Some 21 ∷ []) ∷ cell (2 ∷ 6 ∷ 16 ∷ []) (Some 21 ∷ []) ∷ cell (1 ∷ 8 ∷ 16 ∷ []) (Some 21 ∷ []) ∷ cell (2 ∷ 8 ∷ 16 ∷ []) (Some 21 ∷ []) ∷ [])
unfolding before_dim before_hier before_attr hidden-the_row-Expr-0 denote.Hole.Carrier.hidden
cells = refl

-- Columns Pct (19) alone: the dimensions that aren't named stand at Year (0) and Market (3), above its hierarchies.
unnamed : cells_of basic (Base 2 ∷ []) ((19 ∷ []) ∷ []) ([] ∷ []) [] ≡ (cell (0 ∷ 3 ∷ 19 ∷ []) (None ∷ []) ∷ [])
unfolding before_dim before_hier before_attr hidden-the_row-Expr-0 denote.Hole.Carrier.hidden
unnamed = refl

-- the first of columns, rows and cells that is over 100,000
most : excess 250 400 ≡ None
most = refl

one_more : excess 11 9091 ≡ Some 100001
one_more = refl

rows_first : excess 2 100001 ≡ Some 100001
rows_first = refl

-- Of Jan, Feb and Year in the columns, and NY and CA in the rows, with values in Year of NY alone and Jan of CA alone.
abbrev plan : Bool → Bool → GridPlan
plan empty_columns empty_rows = record {
  columns = record { dims = Base 0 ∷ []; rows = (1 ∷ []) ∷ (2 ∷ []) ∷ (0 ∷ []) ∷ [] };
  rows = record { dims = Base 1 ∷ Attr 0 ∷ []; rows = (6 ∷ 21 ∷ []) ∷ (8 ∷ 21 ∷ []) ∷ [] };
  cells = [];
  empty_columns = empty_columns;
  empty_rows = empty_rows;
}

abbrev values : List Val
values = Missing ∷ Missing ∷ Num (pos 15000) ∷ Num (pos 2) ∷ Missing ∷ Missing ∷ []

lines : grid_lines basic [] (plan false false) values
    ≡ codes "\tJan\tYear\nNY, Large\t#Missing\t1.5000\nCA, Large\t0.0002\t#Missing\n"
unfolding grid_text seats digits hidden-the_row-Expr-0 denote.Hole.Carrier.hidden
lines = refl

all_columns : kept_columns (plan true false) values ≡ (0 ∷ 1 ∷ 2 ∷ [])
all_columns = refl

-- where all is missing, nothing of an axis without its empty tuples is kept
nothing : kept_rows (plan true false) (Missing ∷ Missing ∷ Missing ∷ Missing ∷ Missing ∷ Missing ∷ []) ≡ []
nothing = refl
