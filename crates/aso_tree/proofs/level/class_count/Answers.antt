use Rattle.std.proofs.Common.{◌+◌, arith}
use Rattle.aso_tree.specs.declared.level.Level.{Level}
use Rattle.aso_tree.specs.Trees.{class_count, height}
use Rattle.aso_tree.proofs.Rows.{in_rows, at_row}
use Rattle.aso_tree.proofs.level.class_count.Goals as goal

pub bounds-levels-level : goal.bounds-levels-level
bounds-levels-level c =
    in_rows (class_count c.args.parents.now) (λ (l : Level). l.count) c.args.levels.now (height c.args.parents.now 0 + 1) c.requires.known.1 c.args.level (omega (arith, c.requires.level))

pub bounds-levels-level-2 : goal.bounds-levels-level-2
bounds-levels-level-2 c =
    in_rows (class_count c.args.parents.now) (λ (l : Level). l.count) c.args.levels.now (height c.args.parents.now 0 + 1) c.requires.known.1 c.args.level (omega (arith, c.requires.level))

pub returns : goal.returns
returns c =
    at_row (class_count c.args.parents.now) (λ (l : Level). l.count) c.args.levels.now (height c.args.parents.now 0 + 1) c.requires.known.1 c.args.level (omega (arith, c.requires.level)) c.index-levels-level.result
