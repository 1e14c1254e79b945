use Rattle.std.proofs.Common.{◌≡◌, ◌++◌, take}
use Rattle.std.specs.List.{flat_map}
use Rattle.aso_grid.specs.Lines.{row_line}
use Rattle.aso_grid.proofs.row_text.put_rows.Given as goal

abbrev pub invariant-loop-row : goal.invariant-loop-row
invariant-loop-row l = l.out.items ≡ l.fn.out.items ++ flat_map (row_line l.outline l.own l.plan l.values l.columns) (take l.row-index l.rows)
