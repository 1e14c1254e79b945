-- What a sheet comes to over its outline: a grid, or its first refusal.
use Rattle.std.specs.Prelude.{◌≡◌, ◌⊎◌, ◌^◌, ℕ, ℤ, false, List, [], ◌∷◌, ◌++◌, map, Option, Some, None, nat_le, unsigned_abs}
use Rattle.std.specs.Option.{option_or}
use Rattle.std.specs.List.{find}
use Rattle.aso_outline.specs.declared.draft.Draft.{Draft}
use Rattle.aso_outline.specs.Members.{Name}
use Rattle.aso_outline.specs.Rules.{broken}
use Rattle.aso_spec.specs.Cells.{Cells, Key, summed}
use Rattle.aso_spec.specs.Grid.{end_line, grid_head}
use Rattle.aso_spec.specs.Named.{key_named}
use Rattle.aso_sheettext.specs.Sheet.{Cell, Sheet}
use Rattle.aso_sheettext.specs.Faults.{IsSheetFault, TextSaysSheet}
use Rattle.aso_outtext.specs.declared.fault.TextFault.TheVariants.{Line, Refused as Broken, Json, NoMemory}
use Rattle.aso_outtext.specs.Drafts.{draft_of}
use Rattle.aso_mdx.specs.declared.query.Axis.{Axis}
use Rattle.aso_mdx.specs.declared.query.Query.{Query}
use Rattle.aso_mdx.specs.declared.query.SetText.{SetText}
use Rattle.aso_mdx.specs.declared.query.SetText.TheVariants.{Braced, Member}
use Rattle.aso_grid.specs.Plans.{IsKnown, IsTaken, plan_of}
use Rattle.aso_query.specs.Answers.{IsAskedRefusal, IsGridOf, IsPast}
use Rattle.aso_query.specs.declared.refusal.QueryRefusal.TheVariants.{UnknownMember, Dimension, Formula, TooLarge, Range}
use Rattle.aso_cellnames.specs.Names.{cell_names, is_unknown, wrong_in_cell}
use Rattle.aso_sums.specs.Stored.{stored_value}
use Rattle.aso_eval.specs.declared.refusal.SheetRefusal.{SheetRefusal}
use Rattle.aso_eval.specs.declared.refusal.SheetRefusal.TheVariants.{Text, Names, Amount}

-- ---- cells

-- the first name in the cells' lines that no member has
abbrev pub unknown_in_cells : Draft → List Cell → Option Name
unknown_in_cells o [] = None
unknown_in_cells o (c ∷ cs) = option_or (find (is_unknown o) c.names) (unknown_in_cells o cs)

-- the first name that keeps the names of a line from being those of a cell
abbrev pub wrong_in_cells : Draft → List Cell → Option Name
wrong_in_cells o [] = None
wrong_in_cells o (c ∷ cs) = option_or (wrong_in_cell o c.names) (wrong_in_cells o cs)

abbrev pub record_of : Draft → Cell → Key × ℤ
record_of o c = (key_named o c.names, c.amount)

-- the amounts at the same cell are summed
abbrev pub cells_of : Draft → List Cell → Cells
cells_of o cs = summed (map (record_of o) cs)

-- the least cell whose amount is out of range
abbrev pub past : Cells → Option (Key × ℤ)
past cells = find (λ c. nat_le (10 ^ 18) (unsigned_abs c.1)) cells

-- ---- axes

abbrev pub member_text : Name → SetText
member_text name = Member (name ∷ [])

abbrev pub axis_of : List Name → Axis
axis_of names = record { non_empty = false; set = Braced (map member_text names) }

-- both axes as those of a query, without slicer and members of its own
abbrev pub axes_query : Sheet → Query
axes_query s = record { own = []; columns = axis_of s.columns; rows = Some (axis_of s.rows); app = s.outline.app; db = s.outline.db; slicer = [] }

-- ---- refusals over the outline

-- each name is that of a member
abbrev pub AreKnown : Draft → Sheet → Type 0
AreKnown o s = (unknown_in_cells o s.cells ≡ None) × IsKnown o [] (axes_query s)

-- and the names of each line are those of a cell
abbrev pub AreCells : Draft → Sheet → Type 0
AreCells o s = AreKnown o s × (wrong_in_cells o s.cells ≡ None)

-- and the axes are in order, and no amount is out of range
pub record Fits (o : Draft) (s : Sheet) : Type 0 where
  pub cells : AreCells o s
  pub axes : IsTaken o [] (axes_query s)
  pub range : past (cells_of o s.cells) ≡ None

-- The first of these: an unknown name, of the cells and then of the axes; a name that is wrong in its cell, or in its axis; a size; an
-- amount; a value, which is past no range in a sheet that memory holds.
abbrev pub IsFitRefusal : Draft → Sheet → SheetRefusal → Type 0
IsFitRefusal o s (Text fault) = ⊥
IsFitRefusal o s (Names (UnknownMember name)) = (unknown_in_cells o s.cells ≡ Some name) ⊎ ((unknown_in_cells o s.cells ≡ None) × IsAskedRefusal o (axes_query s) (UnknownMember name))
IsFitRefusal o s (Names (Dimension name)) = AreKnown o s × ((wrong_in_cells o s.cells ≡ Some name) ⊎ ((wrong_in_cells o s.cells ≡ None) × IsAskedRefusal o (axes_query s) (Dimension name)))
IsFitRefusal o s (Names (TooLarge cells)) = AreCells o s × IsAskedRefusal o (axes_query s) (TooLarge cells)
IsFitRefusal o s (Names (Range names)) = Fits o s × IsPast o [] (stored_value o (cells_of o s.cells)) (plan_of o [] (axes_query s)) (Range names)
IsFitRefusal o s (Names (Formula name at)) = ⊥
IsFitRefusal o s (Amount names sum) = AreCells o s × IsTaken o [] (axes_query s) × ((key : Key) × (past (cells_of o s.cells) ≡ Some (key, sum)) × (names ≡ cell_names o key))

-- ---- the whole

-- its text says this sheet, whose outline keeps the rules
pub record IsSheet (text : List ℕ) (s : Sheet) : Type 0 where
  pub said : TextSaysSheet text s
  pub keeps : broken (draft_of s.outline) ≡ None

abbrev pub IsRefusal : List ℕ → SheetRefusal → Type 0
IsRefusal text (Text (Line at)) = IsSheetFault text at
IsRefusal text (Text (Broken rule member)) = (s : Sheet) × TextSaysSheet text s × (broken (draft_of s.outline) ≡ Some (rule, member))
IsRefusal text (Text (Json fault)) = ⊥
IsRefusal text (Text (NoMemory e)) = ⊥
IsRefusal text r = (s : Sheet) × IsSheet text s × IsFitRefusal (draft_of s.outline) s r

-- the reply to a sheet that fits its outline, as statement 1 at commit 0
pub record IsReplyOf (o : Draft) (s : Sheet) (out : List ℕ) : Type 0 where
  pub fits : Fits o s
  pub rows : ℕ
  pub columns : ℕ
  pub lines : List ℕ
  pub grid : IsGridOf o (stored_value o (cells_of o s.cells)) (axes_query s) rows columns lines
  pub is : out ≡ grid_head 1 0 rows columns ++ lines ++ end_line 1

abbrev pub IsReply : List ℕ → List ℕ → Type 0
IsReply text out = (s : Sheet) × IsSheet text s × IsReplyOf (draft_of s.outline) s out
