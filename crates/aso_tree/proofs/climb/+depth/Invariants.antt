use Rattle.aso_tree.proofs.climb.+depth.Given as goal

abbrev pub decreases-depth : goal.decreases-depth
decreases-depth g l = l.node
