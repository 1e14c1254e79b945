use Rattle.std.proofs.Common.{◌+◌, length, arith}
use Rattle.aso_tree.specs.Trees.{leaves_before}
use Rattle.aso_tree.proofs.Rows.{in_list, at_list}
use Rattle.aso_tree.proofs.table.count_at.Goals as goal

pub bounds-counts-place : goal.bounds-counts-place
bounds-counts-place c = in_list (leaves_before c.args.parents.now) c.args.counts.now (length c.args.parents.now + 1) c.requires.counts c.args.place (omega (arith, c.requires.within))

pub returns : goal.returns
returns c = at_list (leaves_before c.args.parents.now) c.args.counts.now (length c.args.parents.now + 1) c.requires.counts c.args.place (omega (arith, c.requires.within)) 0
