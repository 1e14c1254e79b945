use Rattle.aso_outline.specs.Graph.{AreKnown}
use Rattle.aso_outline.proofs.ranks.settle_down.Given as goal

abbrev pub invariant-loop-step : goal.invariant-loop-step
invariant-loop-step l = AreKnown l.draft l.ranks.items
