use Rattle.std.proofs.Common.{◌≡◌, map}
use Rattle.aso_tree.specs.Trees.{places_of}
use Rattle.aso_outline.specs.Members.{seats}
use Rattle.aso_outline.specs.Ranks.{reaches}
use Rattle.aso_outline.proofs.reaching.reach_table.Given as goal

abbrev pub invariant-loop-turn : goal.invariant-loop-turn
invariant-loop-turn l = l.reach.items ≡ map (reaches l.turn l.draft l.goal) (places_of (seats l.draft))
