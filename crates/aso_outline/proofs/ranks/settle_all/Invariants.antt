use Rattle.std.proofs.Common.{◌≡◌, ◌<◌, ℕ, Some}
use Rattle.aso_outline.specs.Graph.{AreKnown, HasTurns, rank_in}
use Rattle.aso_outline.specs.Ranks.{rank_within}
use Rattle.aso_outline.proofs.ranks.settle_all.Given as goal

abbrev pub invariant-loop-number : goal.invariant-loop-number
invariant-loop-number l = record {
  known : AreKnown l.draft l.ranks.items;
  turns : HasTurns l.draft l._turn l.ranks.items;
  next : (k r : ℕ) → k < l.number → rank_within l._turn l.draft k ≡ Some r → rank_in l.ranks.items k ≡ Some r;
}
