use Rattle.aso_tree.specs.Levels.{AreLevels}
use Rattle.aso_tree.proofs.level.levels_of.Given as goal

abbrev pub invariant-loop-level : goal.invariant-loop-level
invariant-loop-level l = AreLevels l.parents l.level l.levels.items
