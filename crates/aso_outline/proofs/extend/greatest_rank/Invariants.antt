use Rattle.std.proofs.Common.{◌≡◌, ◌≤◌, map, take}
use Rattle.aso_tree.specs.Trees.{greatest}
use Rattle.aso_outline.specs.Ranks.{rank_of}
use Rattle.aso_outline.proofs.extend.greatest_rank.Given as goal

abbrev pub invariant-loop-member : goal.invariant-loop-member
invariant-loop-member l = record {
  value : l.most ≡ greatest (map (rank_of l.outline) (take l.member-index l.members));
  bound : l.most ≤ 64;
}
