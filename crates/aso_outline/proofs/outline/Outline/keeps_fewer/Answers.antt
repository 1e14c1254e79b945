use Rattle.std.proofs.Common.{◌≡◌, ◌≤◌, ap, arith}
use Rattle.aso_outline.specs.Classes.{classes_at}
use Rattle.aso_outline.proofs.PlacedLeaves.{classes_few}
use Rattle.aso_outline.proofs.outline.Outline.keeps_fewer.Goals as goal

pub returns-else-fine-gt0 : goal.returns-else-fine-gt0
returns-else-fine-gt0 c =
    let o = c.args.self.now in
    let zero : c.args.fine ≡ 0 = omega (arith, c.if-fine-gt0.false) in
    let few : classes_at o c.args.dim c.args.hier c.args.coarse ≤ classes_at o c.args.dim c.args.hier 0 = classes_few o c.args.dim c.args.hier c.args.coarse c.keeps_classes.ensures in
    omega (arith, few, ap (classes_at o c.args.dim c.args.hier) zero)
