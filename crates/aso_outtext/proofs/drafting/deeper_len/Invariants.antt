use Rattle.std.proofs.Common.{◌≡◌, ◌+◌, map, drop}
use Rattle.std.specs.List.{prefix_len}
use Rattle.aso_outtext.specs.Tables.{is_deeper, line_of}
use Rattle.aso_outtext.proofs.drafting.deeper_len.Given as goal

abbrev pub invariant-loop-i : goal.invariant-loop-i
invariant-loop-i l = l.i + prefix_len is_deeper (map line_of (drop l.i l.lines)) ≡ prefix_len is_deeper (map line_of l.lines)
