use Rattle.std.proofs.Common.{arith, sym}
use Rattle.aso_outline.proofs.HoldLemmas.{holds_past}
use Rattle.aso_outline.proofs.outline.Outline.holds_at.Goals as goal

pub returns-then-leaf-leaf_count : goal.returns-then-leaf-leaf_count
returns-then-leaf-leaf_count c = sym (holds_past c.args.self.now c.args.dim c.args.hier c.args.at c.args.leaf (omega (arith, c.leaf_count.ensures, c.if-leaf-leaf_count.true)))
