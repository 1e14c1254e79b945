use Rattle.std.proofs.Common.{length}
use Rattle.aso_tree.specs.Trees.{height}
use Rattle.aso_tree.proofs.Rows.{in_list, at_list}
use Rattle.aso_tree.proofs.level.height_at.Goals as goal

pub bounds-heights-node : goal.bounds-heights-node
bounds-heights-node c = in_list (height c.args.parents.now) c.args.heights.now (length c.args.parents.now) c.requires.known c.args.node c.requires.within

pub returns : goal.returns
returns c = at_list (height c.args.parents.now) c.args.heights.now (length c.args.parents.now) c.requires.known c.args.node c.requires.within 0
