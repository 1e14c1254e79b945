use Rattle.std.proofs.Common.{◌-◌, ◌≡◌, ◌<◌, ◌≤◌, ℕ, true, length}
use Rattle.aso_tree.specs.Trees.{is_under}
use Rattle.aso_outline.specs.Members.{parents_of}
use Rattle.aso_axes.proofs.below.end_of.Given as goal

abbrev pub invariant-loop-end : goal.invariant-loop-end
invariant-loop-end l = record {
  low : l.place < l.end;
  fits : l.end ≤ length l.tree;
  below : (k : ℕ) → l.place ≤ k → k < l.end → is_under (parents_of l.tree) l.place k ≡ true;
}

abbrev pub decreases-loop-end : goal.decreases-loop-end
decreases-loop-end l = length l.tree - l.end
