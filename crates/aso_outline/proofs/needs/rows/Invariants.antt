use Rattle.std.proofs.Common.{◌≡◌, map}
use Rattle.std.specs.List.{range_with_len}
use Rattle.aso_outline.specs.Graph.{row_at, row_of}
use Rattle.aso_outline.proofs.needs.rows.Given as goal

abbrev pub invariant-loop-number : goal.invariant-loop-number
invariant-loop-number l = map row_of l.rows.items ≡ map (row_at l.draft) (range_with_len 0 l.number)
