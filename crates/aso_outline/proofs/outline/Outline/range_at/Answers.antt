use Rattle.aso_outline.proofs.LeafRows.{range_high}
use Rattle.aso_outline.proofs.outline.Outline.range_at.Goals as goal

pub range_above-requires-clause-level : goal.range_above-requires-clause-level
range_above-requires-clause-level c = (range_high c.args.self.now c.args.dim c.args.hier c.args.at c.args.level c.if-level-gt0.true c.requires.range).0

pub range_above-requires-clause-stored : goal.range_above-requires-clause-stored
range_above-requires-clause-stored c = (range_high c.args.self.now c.args.dim c.args.hier c.args.at c.args.level c.if-level-gt0.true c.requires.range).1
