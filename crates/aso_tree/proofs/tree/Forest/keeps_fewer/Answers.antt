use Rattle.std.proofs.Common.{◌-◌, arith}
use Rattle.aso_tree.proofs.ClassCounts.{coarser_by}
use Rattle.aso_tree.proofs.tree.Forest.keeps_fewer.Goals as goal

pub returns : goal.returns
returns c =
    coarser_by c.args.self.now c.parents-parents.ensures.tree c.parents-parents.ensures.short (c.args.coarse - c.args.fine) c.args.fine c.args.coarse (omega (arith, c.requires))
