-- What the code holds while it reads.
use Rattle.std.specs.Prelude.{false, [], map, None, codes}
use Rattle.aso_sheettext.specs.declared.outline.OutlineReading.{OutlineReading}
use Rattle.aso_sheettext.specs.declared.sheet.SheetReading.{SheetReading}
use Rattle.aso_sheettext.specs.declared.stage.Stage.TheVariants.{InOutline}
use Rattle.aso_sheettext.specs.Reading.{OutlineSoFar, SheetSoFar}
use Rattle.aso_sheettext.specs.Texts.{names, cell, outline}

abbrev pub outline_so_far : OutlineReading → OutlineSoFar
outline_so_far r = record { named = r.named; last = r.last; outline = outline r.outline }

abbrev pub sheet_so_far : SheetReading → SheetSoFar
sheet_so_far r = record { stage = r.stage; outline = outline_so_far r.outline; cells = map cell r.cells.items; columns = names r.columns.items; rows = names r.rows.items }

abbrev pub outline_start : OutlineSoFar
outline_start = record { named = false; last = None; outline = record { app = codes "Sample"; db = codes "Basic"; members = [] } }

abbrev pub sheet_start : SheetSoFar
sheet_start = record { stage = InOutline; outline = outline_start; cells = []; columns = []; rows = [] }
