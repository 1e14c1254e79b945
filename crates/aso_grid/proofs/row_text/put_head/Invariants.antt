use Rattle.std.proofs.Common.{◌≡◌, ◌++◌, take}
use Rattle.std.specs.List.{flat_map}
use Rattle.aso_grid.specs.Lines.{head_field}
use Rattle.aso_grid.proofs.row_text.put_head.Given as goal

abbrev pub invariant-loop-column : goal.invariant-loop-column
invariant-loop-column l = l.out.items ≡ l.fn.out.items ++ flat_map (head_field l.outline l.own l.columns) (take l.column-index l.kept)
