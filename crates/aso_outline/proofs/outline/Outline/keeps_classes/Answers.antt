use Rattle.aso_outline.proofs.PlacedLeaves.{class_has_leaf}
use Rattle.aso_outline.proofs.outline.Outline.keeps_classes.Goals as goal

pub returns : goal.returns
returns c class below =
    class_has_leaf c.args.self.now c.keeps.ensures c.args.dim c.requires.dim c.args.hier c.args.level class c.requires.hier c.requires.stored below
