use Rattle.std.proofs.Common.{◌≡◌, map, drop}
use Rattle.std.specs.Prelude.{max}
use Rattle.std.specs.Option.{option_map}
use Rattle.aso_outline.specs.Graph.{rank_in}
use Rattle.aso_outline.specs.Ranks.{greatest_rank}
use Rattle.aso_outline.proofs.ranks.greatest.Given as goal

abbrev pub invariant-loop-need : goal.invariant-loop-need
invariant-loop-need l = option_map (max l.most) (greatest_rank (map (rank_in l.ranks) (drop l.need-index l.needs))) ≡ greatest_rank (map (rank_in l.ranks) l.needs)
