use Rattle.std.proofs.Common.{◌≡◌, suc, map}
use Rattle.std.specs.List.{range_with_len}
use Rattle.aso_outline.specs.Ranks.{reaches}
use Rattle.aso_outline.proofs.reaching.next_table.Given as goal

abbrev pub invariant-loop-number : goal.invariant-loop-number
invariant-loop-number l = l.next.items ≡ map (reaches (suc l.turn) l.draft l.goal) (range_with_len 0 l.number)
