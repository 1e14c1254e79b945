use Rattle.aso_tree.proofs.climb.+is_under.Given as goal

abbrev pub decreases-is_under : goal.decreases-is_under
decreases-is_under g l = l.node
