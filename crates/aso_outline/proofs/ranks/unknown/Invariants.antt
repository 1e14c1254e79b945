use Rattle.std.proofs.Common.{◌≡◌, replicate}
use Rattle.aso_outline.proofs.KnownRanks.{none_yet}
use Rattle.aso_outline.proofs.ranks.unknown.Given as goal

abbrev pub invariant-loop-member : goal.invariant-loop-member
invariant-loop-member l = l.ranks.items ≡ replicate l._member none_yet
