-- What the code holds of a text, as the sheet of the definitions.
use Rattle.std.specs.Prelude.{ℕ, List, map}
use Rattle.std.specs.Borrow.{Bor}
use Rattle.aso_sheettext.specs.declared.line.TextLine.{TextLine}
use Rattle.aso_sheettext.specs.declared.text.MemberText.{MemberText}
use Rattle.aso_sheettext.specs.declared.text.CellText.{CellText}
use Rattle.aso_sheettext.specs.declared.text.OutlineText.{OutlineText}
use Rattle.aso_sheettext.specs.declared.text.SheetText.{SheetText}
use Rattle.aso_sheettext.specs.declared.text.PartText.{PartText}
use Rattle.aso_sheettext.specs.declared.text.PartText.TheVariants.{Database as DatabaseText, Member as AMember, Cell as ACell, Columns as ColumnsText, Rows as RowsText}
use Rattle.aso_sheettext.specs.Sheet.{Name, Member, Cell, Outline, Sheet, Part, Database, OneMember, OneCell, Columns, Rows}
use Rattle.aso_sheettext.specs.Lines.{Line}

abbrev pub line : TextLine → Line
line l = record { at = l.at; bytes = l.bytes.now }

abbrev pub names : List (Bor (List ℕ)) → List Name
names all = map (λ n. n.now) all

abbrev pub member : MemberText → Member
member m = record { depth = m.depth; name = m.name.now }

abbrev pub cell : CellText → Cell
cell c = record { names = names c.names.items; amount = c.amount }

abbrev pub outline : OutlineText → Outline
outline o = record { app = o.app.now; db = o.db.now; members = map member o.members.items }

abbrev pub sheet : SheetText → Sheet
sheet s = record { outline = outline s.outline; cells = map cell s.cells.items; columns = names s.columns.items; rows = names s.rows.items }

abbrev pub part : PartText → Part
part (DatabaseText app db) = Database app.now db.now
part (AMember m) = OneMember (member m)
part (ACell c) = OneCell (cell c)
part (ColumnsText all) = Columns (names all.items)
part (RowsText all) = Rows (names all.items)
