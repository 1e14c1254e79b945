use Rattle.std.proofs.Common.{◌≡◌, ◌<◌, ℕ, None}
use Rattle.aso_outline.specs.Graph.{rank_after, rank_in}
use Rattle.aso_outline.proofs.ranks.is_closed.Given as goal

abbrev pub invariant-loop-number : goal.invariant-loop-number
invariant-loop-number l = (k : ℕ) → k < l.number → rank_in l.ranks k ≡ None → rank_after l.draft l.ranks k ≡ None
