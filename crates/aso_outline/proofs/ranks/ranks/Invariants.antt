use Rattle.aso_outline.specs.Graph.{AreKnown, HasTurns}
use Rattle.aso_outline.proofs.ranks.ranks.Given as goal

abbrev pub invariant-loop-turn : goal.invariant-loop-turn
invariant-loop-turn l = record {
  known : AreKnown l.draft l.ranks.items;
  turns : HasTurns l.draft l.turn l.ranks.items;
}
