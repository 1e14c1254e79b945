use Rattle.std.proofs.Common.{◌∙◌, sym}
use Rattle.aso_keys.proofs.RangeLemmas.{ranged}
use Rattle.aso_keys.proofs.ranges.range_of.Goals as goal

pub returns-then-is_ranged : goal.returns-then-is_ranged
returns-then-is_ranged c =
    ranged c.args.outline.now c.args.dim c.args.hier c.args.level c.args.m c.class_range.result c.requires (sym c.is_ranged.ensures ∙ c.if-is_ranged.true)
    c.class_range.ensures.exactly c.class_range.ensures.in_order c.class_range.ensures.within
